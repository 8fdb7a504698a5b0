use Rattle.std.proofs.Common.{ℕ, ◌+◌, ◌-◌, ◌/◌, ◌%◌, ◌^◌, ◌∙◌, List, ap, arith, bit_and, get_or}
use Rattle.raw_rows.proofs.BitPixels.{loaded, pixel-is}
use Rattle.raw_rows.proofs.bits.chunk_of.Goals as goal

pub returns : goal.returns
returns c = λ x low.
    let bytes : List ℕ = c.args.bytes.now in
    let n : ℕ = c.args.first + x in
    pixel-is (n % 8) (get_or bytes (n / 8) 0) _ (omega arith) (c.type_inv.bytes (n / 8)).fits
    (c.chunk_bits.ensures x low ∙ ap (λ b. bit_and b (2 ^ (7 - n % 8))) (loaded bytes (n / 8) (omega arith)))
