use Rattle.std.proofs.Common.{◌≡◌, ◌≢◌, ℕ, ◌<◌, get_or, length}
use Rattle.ink_separation.proofs.planes.put_chosen.Given as goal

abbrev pub invariant-loop-n : goal.invariant-loop-n
invariant-loop-n l = record {
  len : length l.plane ≡ 2048;
  none : (k : ℕ) → k < l.n → get_or l.columns k 0 ≡ 0 → get_or l.plane k 0 ≡ l.none;
  full : (k : ℕ) → k < l.n → get_or l.columns k 0 ≢ 0 → get_or l.plane k 0 ≡ l.full;
}
