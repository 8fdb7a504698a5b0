use Rattle.std.proofs.Common.{◌-◌, length}
use Rattle.page_maker.proofs.Filling.{FilledSoFar}
use Rattle.page_maker.proofs.lines.fill_line.Given as goal

abbrev pub invariant-runs : goal.invariant-runs
invariant-runs l = FilledSoFar l.unit l.fn.draws.state l.fn.line l.line l.filled l.draws.state

abbrev pub decreases-runs : goal.decreases-runs
decreases-runs l = length l.line - l.filled
