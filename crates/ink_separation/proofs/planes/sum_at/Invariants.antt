use Rattle.std.proofs.Common.{◌≡◌, ℕ, ◌+◌, ◌*◌, ◌<◌, get_or, length, min}
use Rattle.ink_separation.proofs.planes.sum_at.Given as goal

abbrev pub invariant-loop-r : goal.invariant-loop-r
invariant-loop-r l = record {
  len : length l.values ≡ 32;
  filled : (k : ℕ) → k < l.r → get_or l.values k 0 ≡ min 255 (get_or l.columns (32 * (4 * l.o + l.place) + k) 0 + get_or l.columns (32 * (4 * l.o + 3) + k) 0);
}
