use Rattle.std.proofs.Common.{◌≡◌, ℕ, ◌<◌, get_or, length}
use Rattle.separation_definitions.specs.Grain.{reach}
use Rattle.grained_rows.proofs.moving.reaches_of.Given as goal

abbrev pub invariant-loop-r : goal.invariant-loop-r
invariant-loop-r l = record {
  len : length l.reaches ≡ 32;
  filled : (k : ℕ) → k < l.r → get_or l.reaches k 0 ≡ reach l.grain l.limit (get_or l.amounts k 0);
}
