use Rattle.dot_planes.specs.Bands.{HasTileRows}
use Rattle.dot_planes.proofs.band_rows.put_side_by_side.Given as goal

abbrev pub invariant-loop-c : goal.invariant-loop-c
invariant-loop-c l = HasTileRows l.wide l.tiles l.ink l.r l.c
