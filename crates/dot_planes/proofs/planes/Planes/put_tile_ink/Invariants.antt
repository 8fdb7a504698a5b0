use Rattle.dot_planes.proofs.PutTiles.{PutsRows}
use Rattle.dot_planes.proofs.planes.Planes.put_tile_ink.Given as goal

abbrev pub invariant-loop-r : goal.invariant-loop-r
invariant-loop-r l = PutsRows l.fn.self l.self l.at l.height l.place l.ink l.r l.bytes
