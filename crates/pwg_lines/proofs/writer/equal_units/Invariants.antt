use Rattle.std.proofs.Common.{take, ◌-◌}
use Rattle.pwg_lines.proofs.Writing.{CopiesSoFar}
use Rattle.pwg_lines.proofs.writer.equal_units.Given as goal

abbrev pub invariant-units : goal.invariant-units
invariant-units l = CopiesSoFar 128 (take l.unit l.line) l.line l.count l.rest

abbrev pub decreases-units : goal.decreases-units
decreases-units l = 128 - l.count
