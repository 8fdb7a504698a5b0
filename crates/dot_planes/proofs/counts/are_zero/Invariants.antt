use Rattle.std.proofs.Common.{◌≡◌, ℕ, ◌<◌, get_or}
use Rattle.dot_planes.proofs.counts.are_zero.Given as goal

abbrev pub invariant-loop-k : goal.invariant-loop-k
invariant-loop-k l = record {
  zero : l.any ≡ 0 → (i : ℕ) → i < l.k → get_or l.bytes i 0 ≡ 0;
}
