use Rattle.std.proofs.Common.{◌≡◌, length}
use Rattle.diffusion_tests.proofs.windows.edge_of.Given as goal

abbrev pub invariant-loop-ink : goal.invariant-loop-ink
invariant-loop-ink l = length l.edge ≡ l.inks
