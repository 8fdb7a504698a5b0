use Rattle.std.proofs.Common.{ℕ, ◌<◌, ◌≡◌, ◌≤◌, get_or}
use Rattle.raw_rows.proofs.white.are_empty.Given as goal

abbrev pub invariant-loop-k : goal.invariant-loop-k
invariant-loop-k l = record {
  most : (n : ℕ) → n < l.k → get_or l.bytes n 0 ≤ l.any;
  empty : ((n : ℕ) → n < l.k → get_or l.bytes n 0 ≡ 0) → l.any ≡ 0;
}
