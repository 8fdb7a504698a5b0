use Rattle.std.proofs.Common.{◌≡◌, ℕ, ◌+◌, ◌<◌, get_or, length, min}
use Rattle.ink_separation.proofs.quarters.more.Given as goal

abbrev pub invariant-loop-x : goal.invariant-loop-x
invariant-loop-x l = record {
  len : length l.sums ≡ 64;
  filled : (k : ℕ) → k < l.x → get_or l.sums k 0 ≡ min 255 (get_or l.fn.values k 0 + get_or l.added k 0);
}
