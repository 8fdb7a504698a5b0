use Rattle.dot_planes.specs.Bands.{HaveNoDots}
use Rattle.dot_planes.proofs.band_rows.have_no_dots.Given as goal

abbrev pub invariant-loop-c : goal.invariant-loop-c
invariant-loop-c l = HaveNoDots l.tiles l.ink l.c
