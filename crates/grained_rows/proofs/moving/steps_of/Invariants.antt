use Rattle.std.proofs.Common.{◌≡◌, ℕ, ◌+◌, ◌*◌, ◌/◌, ◌%◌, ◌<◌, get_or, length}
use Rattle.grained_rows.proofs.moving.steps_of.Given as goal

abbrev pub invariant-loop-r : goal.invariant-loop-r
invariant-loop-r l = record {
  len : length l.steps ≡ 32;
  filled : (k : ℕ) → k < l.r → get_or l.steps k 0
      ≡ ((get_or l.starts k 0 + 49471 * l.o) % 65536) * (2 * get_or l.reaches k 0 + 1) / 65536;
}
