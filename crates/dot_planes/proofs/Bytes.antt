-- The dots of bytes that are shifted and masked.
use Rattle.std.proofs.Common.{◌≡◌, ◌⊎◌, ℕ, ◌+◌, ◌-◌, ◌*◌, ◌/◌, ◌%◌, ◌^◌, ◌<◌, ◌≤◌, min, max, sym}
use Rattle.std.proofs.Common.{◌∙◌, ap, arith, inl, inr, bit_and, bit_or}
use Rattle.std.proofs.Math.Nat.{div-div-eq-div-mul, div-le_self}
use Rattle.std.proofs.lemmas.Nat.{and_le_l, pow-add}
use Rattle.std.proofs.lemmas.Nat.Bits.{bit_at-lt, bit_at_and, bit_at_cat_low, bit_at_not}
use Rattle.std.proofs.lemmas.Nat.Bits.{bit_at_ones, bit_at_ones_above, bit_at_or, ones_shr}
use Rattle.std.specs.Int.{w8, bit_at as bit}
use Rattle.base_definitions.specs.Packed.{bit_at}

-- ---- bits of a number

pub shr_bit : (n a i : ℕ) → bit (n / 2 ^ a) i ≡ bit n (a + i)
shr_bit n a i = ap (λ m. m % 2) (div-div-eq-div-mul n (2 ^ a) (2 ^ i) ∙ ap (λ m. n / m) (sym (pow-add 2 a i)))

pub low_bit : (n i : ℕ) → i < 8 → bit (n % 256) i ≡ bit n i
low_bit n i low =
    let parts : n / 256 * 256 + n % 256 ≡ n = omega arith in
    sym (bit_at_cat_low (n / 256) 8 (n % 256) i low) ∙ ap (λ m. bit m i) parts

-- ---- a byte with some dots of another

-- the dots from one place to before another
abbrev pub mask_of : ℕ → ℕ → ℕ
mask_of from to = bit_and (255 / 2 ^ from) (255 - 255 / 2 ^ to)

from_inside : (from k : ℕ) → from ≤ 8 → k < 8 → from ≤ k → bit (255 / 2 ^ from) (7 - k) ≡ 1
from_inside from k fits low inside = ap (λ n. bit n (7 - k)) (ones_shr 8 from fits) ∙ bit_at_ones (8 - from) (7 - k) (omega arith)

from_before : (from k : ℕ) → from ≤ 8 → k < 8 → k < from → bit (255 / 2 ^ from) (7 - k) ≡ 0
from_before from k fits low before = ap (λ n. bit n (7 - k)) (ones_shr 8 from fits) ∙ bit_at_ones_above (8 - from) (7 - k) (omega arith)

fits_byte : (n : ℕ) → 255 / 2 ^ n < 256
fits_byte n = omega (arith, div-le_self 255 (2 ^ n))

pub mask_fits : (from to : ℕ) → mask_of from to < 256
mask_fits from to = omega (arith, and_le_l (255 / 2 ^ from) (255 - 255 / 2 ^ to), fits_byte from)

mask_bit : (from to i : ℕ) → i < 8 → bit (mask_of from to) i ≡ min (bit (255 / 2 ^ from) i) (1 - bit (255 / 2 ^ to) i)
mask_bit from to i low =
    bit_at_and (255 / 2 ^ from) (255 - 255 / 2 ^ to) i
    ∙ ap (min (bit (255 / 2 ^ from) i)) (bit_at_not w8 (255 / 2 ^ to) i (fits_byte to) low)

abbrev pub spliced : ℕ → ℕ → ℕ → ℕ
spliced old new mask = bit_or (bit_and old (255 - mask)) (bit_and new mask)

spliced_bit : (old new mask i : ℕ) → mask < 256
    → i < 8 → bit (spliced old new mask) i ≡ max (min (bit old i) (1 - bit mask i)) (min (bit new i) (bit mask i))
spliced_bit old new mask i fits low =
    let kept : bit (bit_and old (255 - mask)) i ≡ min (bit old i) (1 - bit mask i) =
    bit_at_and old (255 - mask) i ∙ ap (min (bit old i)) (bit_at_not w8 mask i fits low) in
    bit_at_or (bit_and old (255 - mask)) (bit_and new mask) i
    ∙ ap (λ n. max n (bit (bit_and new mask) i)) kept
    ∙ ap (max (min (bit old i) (1 - bit mask i))) (bit_at_and new mask i)

pub spliced_inside : (old new from to k : ℕ)
    → from ≤ 8 → to ≤ 8 → from ≤ k → k < to → bit_at (spliced old new (mask_of from to)) k ≡ bit_at new k
spliced_inside old new from to k few few' after before =
    grind (arith, bit_at-lt, from_before, from_inside, mask_bit, mask_fits, mask_of, spliced, spliced_bit)

mask_off : (from to k : ℕ) → from ≤ 8 → to ≤ 8 → k < 8 → (k < from) ⊎ (to ≤ k) → bit (mask_of from to) (7 - k) ≡ 0
mask_off from to k few few' low (inl before) = omega (arith, mask_bit from to (7 - k) (omega arith), from_before from k few low before)
mask_off from to k few few' low (inr past) = omega (arith, mask_bit from to (7 - k) (omega arith), from_inside to k few' low past)

pub spliced_outside : (old new from to k : ℕ)
    → from ≤ 8 → to ≤ 8 → k < 8 → (k < from) ⊎ (to ≤ k) → bit_at (spliced old new (mask_of from to)) k ≡ bit_at old k
spliced_outside old new from to k few few' low where_is = grind (arith, bit_at-lt, mask_fits, mask_of, mask_off, spliced, spliced_bit)
