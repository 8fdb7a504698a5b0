use Rattle.printer_profile.proofs.CheckedProfiles.{is_coprime}
use Rattle.printer_profile.proofs.laws.checked_is_coprime.Goals as goal

pub returns : goal.returns
returns c = is_coprime c.args.p
