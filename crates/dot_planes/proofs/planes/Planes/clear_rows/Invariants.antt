use Rattle.dot_planes.specs.Bands.{ClearsRows}
use Rattle.dot_planes.proofs.planes.Planes.clear_rows.Given as goal

abbrev pub invariant-loop-r : goal.invariant-loop-r
invariant-loop-r l = ClearsRows l.fn.self l.self l.ink l.first l.r
