use Rattle.std.proofs.Common.{◌≡◌, ℕ, ◌<◌, ◌≤◌, get_or, length}
use Rattle.ink_separation.proofs.scales.look_all_up.Given as goal

abbrev pub invariant-loop-n : goal.invariant-loop-n
invariant-loop-n l = record {
  len : length l.plane ≡ 2048;
  filled : (k : ℕ) → k < l.n → get_or l.plane k 0 ≡ get_or l.table (get_or l.initial.plane k 0) 0;
  rest : (k : ℕ) → l.n ≤ k → get_or l.plane k 0 ≡ get_or l.initial.plane k 0;
}
