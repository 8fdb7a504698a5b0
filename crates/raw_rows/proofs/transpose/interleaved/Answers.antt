use Rattle.std.proofs.Common.{◌+◌, ◌++◌, get_or}
use Rattle.raw_rows.proofs.Squares.{turns}
use Rattle.raw_rows.proofs.transpose.interleaved.Goals as goal

pub returns-clause-low : goal.returns-clause-low
returns-clause-low c = turns (λ k. get_or (c.args.a ++ c.args.b) k 0)

pub returns-clause-high : goal.returns-clause-high
returns-clause-high c = turns (λ k. get_or (c.args.a ++ c.args.b) (8 + k) 0)
