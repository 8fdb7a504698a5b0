use Rattle.std.proofs.Common.{◌≡◌, ℕ, ◌+◌, ◌-◌, ◌*◌, ◌/◌, ◌%◌, ◌^◌, ◌∙◌, ap, arith, bit_and, get_or, length-set}
use Rattle.base_definitions.specs.Packed.{bit_at, worth}
use Rattle.ink_separation.proofs.BitPixels.{loaded, pixel-is}
use Rattle.ink_separation.proofs.Filled.{filled_more}
use Rattle.ink_separation.proofs.bits.chunk_of.Goals as goal

pub loop-x-preserved : goal.loop-x-preserved
loop-x-preserved c =
    let x : ℕ = c.loop-x.x in
    let bytes = c.args.bytes.now in
    let first : ℕ = c.args.first in
    let place : ℕ = (first + x) % 8 in
    let bits : get_or c.chunk_bits-bits.result x 0 ≡ bit_and (get_or bytes ((first + x) / 8) 0) (2 ^ (7 - place)) =
    c.chunk_bits-bits.ensures x (omega arith)
    ∙ ap (λ n. bit_and n (2 ^ (7 - place))) (loaded bytes ((first + x) / 8) (omega arith)) in
    record {
      len = length-set c.loop-x.values _ _ ∙ c.loop-x.invariant.len;
      filled = filled_more c.loop-x.values x _ (λ k. 255 * worth (bit_at (get_or bytes ((first + k) / 8) 0) ((first + k) % 8)) 1)
          (omega arith)
          (pixel-is place (get_or bytes ((first + x) / 8) 0) (get_or c.chunk_bits-bits.result x 0) _
          (omega arith) (c.type_inv.bytes ((first + x) / 8)).fits bits
          c.full_where.ensures.none c.full_where.ensures.some)
          c.loop-x.invariant.filled;
    }
