use Rattle.tile_border.specs.Tops.{IsTopOf}
use Rattle.diffusion_tests.proofs.windows.top_of.Given as goal

abbrev pub invariant-loop-c : goal.invariant-loop-c
invariant-loop-c l = IsTopOf l.width l.inks l.top
