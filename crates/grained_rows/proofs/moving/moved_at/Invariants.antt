use Rattle.std.proofs.Common.{◌≡◌, ℕ, ◌+◌, ◌*◌, ◌%◌, ◌<◌, get_or, length}
use Rattle.separation_definitions.specs.Grain.{grained}
use Rattle.grained_rows.proofs.moving.moved_at.Given as goal

abbrev pub invariant-loop-r : goal.invariant-loop-r
invariant-loop-r l = record {
  len : length l.moved ≡ 32;
  filled : (k : ℕ) → k < l.r → get_or l.moved k 0
      ≡ grained l.grain l.limit ((get_or l.starts k 0 + 49471 * l.o) % 65536) (get_or l.amounts k 0);
}
