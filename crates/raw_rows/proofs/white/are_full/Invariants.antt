use Rattle.std.proofs.Common.{ℕ, ◌<◌, ◌≡◌, ◌≤◌, get_or}
use Rattle.raw_rows.proofs.white.are_full.Given as goal

abbrev pub invariant-loop-k : goal.invariant-loop-k
invariant-loop-k l = record {
  least : (n : ℕ) → n < l.k → l.all ≤ get_or l.bytes n 0;
  full : ((n : ℕ) → n < l.k → get_or l.bytes n 0 ≡ 255) → l.all ≡ 255;
}
