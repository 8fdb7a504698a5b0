use Rattle.std.proofs.Common.{◌≡◌, ℕ, ◌<◌, get_or, length}
use Rattle.ink_separation.proofs.bits.chosen.Given as goal

abbrev pub invariant-loop-x : goal.invariant-loop-x
invariant-loop-x l = record {
  len : length l.amounts ≡ 64;
  none : (k : ℕ) → k < l.x → get_or l.bits k 0 ≡ 0 → get_or l.amounts k 0 ≡ l.none;
  full : (k : ℕ) → k < l.x → get_or l.bits k 0 ≡ 255 → get_or l.amounts k 0 ≡ l.full;
}
