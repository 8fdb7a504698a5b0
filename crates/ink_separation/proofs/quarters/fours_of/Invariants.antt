use Rattle.std.proofs.Common.{◌≡◌, ℕ, ◌+◌, ◌*◌, ◌^◌, ◌<◌, get_or, length}
use Rattle.ink_separation.proofs.quarters.fours_of.Given as goal

abbrev pub invariant-loop-x : goal.invariant-loop-x
invariant-loop-x l = record {
  len : length l.fours ≡ 64;
  filled : (k : ℕ) → k < l.x → get_or l.fours k 0 ≡ get_or l.pixels (4 * k) 0 + 256 * get_or l.pixels (4 * k + 1) 0
      + 256 ^ 2 * get_or l.pixels (4 * k + 2) 0 + 256 ^ 3 * get_or l.pixels (4 * k + 3) 0;
}
