use Rattle.tile_border.proofs.Ends.{AreEnds}
use Rattle.tile_border.proofs.edges.BottomEdge.ends.Given as goal

abbrev pub invariant-loop-n : goal.invariant-loop-n
invariant-loop-n l = AreEnds l.errors l.n l.ends
