use Rattle.std.proofs.Common.{◌≡◌, ℕ, ◌+◌, ◌/◌, ◌<◌, ◌∙◌, List, ap, arith, bit_and, get_or, refl, w8}
use Rattle.std.proofs.lemmas.Simd.{Each1-from_get_or, SwzOk-from_below, get_or-swz_l_below, get_or-zip2, length-swz_l, swz_l}
use Rattle.raw_rows.proofs.BitPixels.{bit-of, byte-of}
use Rattle.raw_rows.proofs.bits.sixteen_bits.Goals as goal

pub swizzle : goal.swizzle
swizzle c =
    let places = c.sixteen_of-places in
    SwzOk-from_below w8 16 1 16 0 places.result refl (omega (arith, places.ensures.len))
    (Each1-from_get_or (λ j. j < 16) places.result 0
    (λ k low. omega (
      arith,
      places.ensures.len,
      places.ensures.lanes k (omega (arith, places.ensures.len)),
      byte-of (c.args.first + k) (omega (arith, places.ensures.len)),
    )))

pub returns : goal.returns
returns c = λ k low.
    let first : ℕ = c.args.first in
    let places = c.sixteen_of-places in
    let bits = c.sixteen_of-bits in
    let moved : List ℕ = swz_l w8 16 c.args.bytes 0 places.result in
    let place : get_or places.result k 0 ≡ (first + k) / 8 =
    places.ensures.lanes k low ∙ byte-of (first + k) (omega arith) in
    let byte : get_or moved k 0 ≡ get_or c.args.bytes ((first + k) / 8) 0 =
    get_or-swz_l_below w8 16 c.args.bytes 0 places.result k (omega (arith, places.ensures.len)) (omega (arith, place))
    ∙ ap (λ n. get_or c.args.bytes n 0) (omega (arith, place)) in
    get_or-zip2 bit_and moved bits.result k 0 0 0
    (omega (arith, places.ensures.len, length-swz_l w8 16 c.args.bytes 0 places.result)) (omega (arith, bits.ensures.len))
    ∙ ap (λ n. bit_and n (get_or bits.result k 0)) byte
    ∙ ap (λ n. bit_and (get_or c.args.bytes ((first + k) / 8) 0) n) (bits.ensures.lanes k low ∙ bit-of (first + k) (omega arith))
