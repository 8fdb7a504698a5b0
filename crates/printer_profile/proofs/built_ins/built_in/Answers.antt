use Rattle.std.proofs.Common.{ap, sym}
use Rattle.printer_profile.specs.Profiles.{built_in}
use Rattle.printer_profile.proofs.built_ins.built_in.Goals as goal

pub returns-in-tiny1 : goal.returns-in-tiny1
returns-in-tiny1 c = sym (ap built_in c.in-tiny1.is)

pub returns-in-tiny : goal.returns-in-tiny
returns-in-tiny c = sym (ap built_in c.in-tiny.is)

pub returns-in-p360k : goal.returns-in-p360k
returns-in-p360k c = sym (ap built_in c.in-p360k.is)

pub returns-in-p360cmyk : goal.returns-in-p360cmyk
returns-in-p360cmyk c = sym (ap built_in c.in-p360cmyk.is)

pub returns-in-p720cmyk : goal.returns-in-p720cmyk
returns-in-p720cmyk c = sym (ap built_in c.in-p720cmyk.is)
