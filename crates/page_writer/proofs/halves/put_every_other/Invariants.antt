use Rattle.std.proofs.Common.{◌≡◌, ◌++◌, take, drop, map}
use Rattle.std.specs.Int.Bits.{bit_and}
use Rattle.page_writer.proofs.halves.put_every_other.Given as goal

abbrev pub invariant-loop-byte : goal.invariant-loop-byte
invariant-loop-byte l = l.room ≡ map (λ b. bit_and b l.mask) (take l.byte-index l.row) ++ drop l.byte-index l.row
