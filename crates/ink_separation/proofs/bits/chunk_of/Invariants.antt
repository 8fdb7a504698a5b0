use Rattle.std.proofs.Common.{◌≡◌, ℕ, ◌+◌, ◌*◌, ◌/◌, ◌%◌, ◌<◌, get_or, length}
use Rattle.base_definitions.specs.Packed.{bit_at, worth}
use Rattle.ink_separation.proofs.bits.chunk_of.Given as goal

abbrev pub invariant-loop-x : goal.invariant-loop-x
invariant-loop-x l = record {
  len : length l.values ≡ 64;
  filled : (k : ℕ) → k < l.x
      → get_or l.values k 0 ≡ 255 * worth (bit_at (get_or l.bytes ((l.first + k) / 8) 0) ((l.first + k) % 8)) 1;
}
