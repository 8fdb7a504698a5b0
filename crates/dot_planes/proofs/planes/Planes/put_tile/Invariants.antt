use Rattle.dot_planes.proofs.PutTiles.{PutsInks}
use Rattle.dot_planes.proofs.planes.Planes.put_tile.Given as goal

abbrev pub invariant-loop-ink : goal.invariant-loop-ink
invariant-loop-ink l = PutsInks l.fn.self l.self l.at l.height l.d.place l.ink l.d.bits
