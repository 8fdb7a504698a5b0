use Rattle.dot_planes.proofs.Bytes.{spliced_inside, spliced_outside}
use Rattle.dot_planes.proofs.tile_rows.splice.Goals as goal

pub returns-clause-inside : goal.returns-clause-inside
returns-clause-inside c = λ k after before.
    spliced_inside c.args.old c.args.new c.args.from c.args.to k c.requires.from c.requires.to after before

pub returns-clause-outside : goal.returns-clause-outside
returns-clause-outside c = λ k low where_is.
    spliced_outside c.args.old c.args.new c.args.from c.args.to k c.requires.from c.requires.to low where_is
