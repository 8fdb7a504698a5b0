use Rattle.std.proofs.Common.{◌≡◌, ℕ, ◌<◌, get_or}
use Rattle.job_lister.proofs.counting.is_blank.Given as goal

abbrev pub invariant-loop-k : goal.invariant-loop-k
invariant-loop-k l = record {
  zero : l.all ≡ 0 → (i : ℕ) → i < l.k → get_or l.block i 0 ≡ 0;
}
