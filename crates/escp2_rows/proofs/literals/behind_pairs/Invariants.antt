use Rattle.std.proofs.Common.{◌-◌, length}
use Rattle.escp2_rows.specs.Passing.{IsLevel}
use Rattle.escp2_rows.proofs.literals.behind_pairs.Given as goal

abbrev pub invariant-pairs : goal.invariant-pairs
invariant-pairs l = IsLevel l.row l.from l.at

abbrev pub decreases-pairs : goal.decreases-pairs
decreases-pairs l = length l.row - l.at
