use Rattle.std.proofs.Common.{◌≡◌, ℕ, ◌<◌, get_or, length}
use Rattle.separation_definitions.specs.Amounts.{darkness}
use Rattle.ink_separation.specs.Given.{colour_at}
use Rattle.ink_separation.proofs.pixels.darkness_of.Given as goal

abbrev pub invariant-loop-x : goal.invariant-loop-x
invariant-loop-x l = record {
  len : length l.values ≡ 64;
  filled : (k : ℕ) → k < l.x → get_or l.values k 0 ≡ darkness (colour_at l.pixels k);
}
