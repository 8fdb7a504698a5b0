use Rattle.std.proofs.Common.{◌*◌, ◌+◌}
use Rattle.dot_planes.proofs.PutBands.{PutsBandInks}
use Rattle.dot_planes.proofs.planes.Planes.put_band.Given as goal

abbrev pub invariant-loop-ink : goal.invariant-loop-ink
invariant-loop-ink l = PutsBandInks l.fn.self l.self (l.at + 32 * l.j) l.rows l.ink l.tiles
