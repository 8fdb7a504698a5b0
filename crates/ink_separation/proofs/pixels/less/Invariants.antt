use Rattle.std.proofs.Common.{◌≡◌, ℕ, ◌-◌, ◌<◌, get_or, length}
use Rattle.ink_separation.proofs.pixels.less.Given as goal

abbrev pub invariant-loop-x : goal.invariant-loop-x
invariant-loop-x l = record {
  len : length l.rest ≡ 64;
  filled : (k : ℕ) → k < l.x → get_or l.rest k 0 ≡ get_or l.values k 0 - get_or l.taken k 0;
}
