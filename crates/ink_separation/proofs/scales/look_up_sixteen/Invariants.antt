use Rattle.std.proofs.Common.{◌≡◌, ℕ, ◌<◌, get_or, length}
use Rattle.ink_separation.proofs.scales.look_up_sixteen.Given as goal

abbrev pub invariant-loop-x : goal.invariant-loop-x
invariant-loop-x l = record {
  len : length l.amounts ≡ 64;
  filled : (k : ℕ) → k < l.x → get_or l.amounts k 0 ≡ get_or l.table (get_or l.given k 0) 0;
}
