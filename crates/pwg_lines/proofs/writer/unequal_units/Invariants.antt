use Rattle.std.proofs.Common.{◌-◌}
use Rattle.pwg_lines.proofs.Writing.{UnequalSoFar}
use Rattle.pwg_lines.proofs.writer.unequal_units.Given as goal

abbrev pub invariant-units : goal.invariant-units
invariant-units l = UnequalSoFar 128 l.unit l.line l.count l.rest

abbrev pub decreases-units : goal.decreases-units
decreases-units l = 128 - l.count
