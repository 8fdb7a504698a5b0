use Rattle.std.proofs.Common.{◌≡◌, ℕ, ◌*◌, ◌/◌, ◌%◌, ◌^◌, ◌<◌, get_or, length}
use Rattle.ink_separation.proofs.quarters.byte_of.Given as goal

abbrev pub invariant-loop-x : goal.invariant-loop-x
invariant-loop-x l = record {
  len : length l.values ≡ 64;
  filled : (k : ℕ) → k < l.x → get_or l.values k 0 ≡ get_or l.fours k 0 / 2 ^ (8 * l.place) % 256;
}
