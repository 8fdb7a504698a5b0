use Rattle.std.proofs.Common.{◌≡◌, ℕ, ◌+◌, ◌*◌, ◌<◌, get_or, length}
use Rattle.ink_separation.proofs.planes.number_at.Given as goal

abbrev pub invariant-loop-r : goal.invariant-loop-r
invariant-loop-r l = record {
  len : length l.values ≡ 32;
  filled : (k : ℕ) → k < l.r → get_or l.values k 0 ≡ get_or l.columns (32 * (4 * l.o + l.place) + k) 0;
}
