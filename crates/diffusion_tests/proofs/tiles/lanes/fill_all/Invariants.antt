use Rattle.diffusion_definitions.specs.Diffusion.{EachInRange}
use Rattle.diffusion_tests.proofs.tiles.lanes.fill_all.Given as goal

abbrev pub invariant-loop-n : goal.invariant-loop-n
invariant-loop-n l = EachInRange l.edge
