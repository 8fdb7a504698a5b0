use Rattle.std.proofs.Common.{◌≡◌, ℕ, ◌+◌, ◌-◌, ◌*◌, ◌/◌, ◌%◌, ◌^◌, ◌<◌, bit_and, get_or, length}
use Rattle.raw_rows.proofs.bits.chunk_bits.Given as goal

abbrev pub invariant-loop-n : goal.invariant-loop-n
invariant-loop-n l = record {
  len : length l.bits ≡ 64;
  filled : (x : ℕ) → x < 16 * l.n
      → get_or l.bits x 0 ≡ bit_and (get_or l.bytes ((l.first + x) / 8) 0) (2 ^ (7 - (l.first + x) % 8));
}
