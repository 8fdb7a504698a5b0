use Rattle.std.proofs.Common.{◌≡◌, ℕ, ◌<◌, get_or, length, min}
use Rattle.ink_separation.proofs.pixels.least_of.Given as goal

abbrev pub invariant-loop-x : goal.invariant-loop-x
invariant-loop-x l = record {
  len : length l.values ≡ 64;
  filled : (k : ℕ) → k < l.x → get_or l.values k 0 ≡ min (min (get_or l.a k 0) (get_or l.b k 0)) (get_or l.c k 0);
}
