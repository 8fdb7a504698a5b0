use Rattle.dot_planes.specs.Bands.{PutsBandInk}
use Rattle.dot_planes.proofs.planes.Planes.put_band_ink.Given as goal

abbrev pub invariant-loop-r : goal.invariant-loop-r
invariant-loop-r l = PutsBandInk l.fn.self l.self l.first l.r l.ink l.tiles
