use Rattle.std.proofs.Common.{◌≡◌, ℕ, ℤ, ◌+◌, ◌-◌, ◌*◌, ◌<◌, ◌+ℤ◌, drop}
use Rattle.diffusion_definitions.specs.Diffusion.{InRange, IsParts, weighted_from}
use Rattle.plain_diffusion.specs.Known.{errors_of}
use Rattle.plain_diffusion.proofs.pixels.row_parts.Given as goal

abbrev pub invariant-loop-i : goal.invariant-loop-i
invariant-loop-i l = record {
  few_parts : IsParts (255 * l.i) l.parts;
  fits : (j : ℕ) → j < l.i → InRange (errors_of l.window l.t (l.n - j));
  so_far : weighted_from 0 l.shares (λ j. errors_of l.window l.t (l.n - j))
      ≡ l.parts +ℤ weighted_from l.i (drop l.i l.shares) (λ j. errors_of l.window l.t (l.n - j));
}
