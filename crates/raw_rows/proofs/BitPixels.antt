-- Pixels of one bit.
use Rattle.std.proofs.Common.{◌≡◌, ◌≢◌, ℕ, ◌+◌, ◌-◌, ◌*◌, ◌/◌, ◌%◌, ◌^◌, ◌==◌, ◌<◌, Bool, true, not, List, get_or, min}
use Rattle.std.proofs.Common.{refl, ◌∙◌, ap, arith, bit_and}
use Rattle.std.proofs.lemmas.Bool.{agree_below, agree_below_at, cases_eq, eq-eqb, eqb-true, ne_eqb}
use Rattle.std.proofs.lemmas.Simd.{get_or-chunk}
use Rattle.std.specs.Simd.Lanes.{chunk}
use Rattle.base_definitions.specs.Packed.{bit_at, worth}
use Rattle.raw_rows.specs.declared.bits.TheConstants.{BITS, BYTES}

-- a number of the first sixteen
pub loaded : (xs : List ℕ) (k : ℕ) → k < 16 → get_or (chunk 0 16 xs) k 0 ≡ get_or xs k 0
loaded xs k low =
    let place : 0 + k ≡ k = omega arith in
    get_or-chunk 0 16 xs k 0 low ∙ ap (λ n. get_or xs n 0) place

-- ---- the tables

abbrev is_byte : ℕ → Bool
is_byte p = get_or BYTES p 0 == p / 8

abbrev is_bit : ℕ → Bool
is_bit p = get_or BITS p 0 == 2 ^ (7 - p % 8)

all_bytes : agree_below is_byte (λ p. true) 72 ≡ true
all_bytes = refl

all_bits : agree_below is_bit (λ p. true) 72 ≡ true
all_bits = refl

pub byte-of : (p : ℕ) → p < 72 → get_or BYTES p 0 ≡ p / 8
byte-of p low = eqb-true _ _ (agree_below_at is_byte (λ n. true) 72 p all_bytes low)

pub bit-of : (p : ℕ) → p < 72 → get_or BITS p 0 ≡ 2 ^ (7 - p % 8)
bit-of p low = eqb-true _ _ (agree_below_at is_bit (λ n. true) 72 p all_bits low)

-- ---- a pixel

-- For each place and each byte, the checker computes whether its bit is left.
abbrev left_of : ℕ → ℕ → Bool
left_of k byte = not (bit_and byte (2 ^ (7 - k)) == 0)

abbrev agrees : ℕ → Bool
agrees k = agree_below (λ byte. bit_at byte k) (left_of k) 256

all_agree : agree_below agrees (λ k. true) 8 ≡ true
all_agree = refl

bit-is : (k byte : ℕ) → k < 8 → byte < 256 → bit_at byte k ≡ left_of k byte
bit-is k byte low fits =
    agree_below_at (λ b. bit_at b k) (left_of k) 256 byte (agree_below_at agrees (λ n. true) 8 k all_agree low) fits

-- what is left of a bit says what its pixel is
pub pixel-is : (k byte left : ℕ) → k < 8 → byte < 256 → left ≡ bit_and byte (2 ^ (7 - k)) → min 1 left ≡ worth (bit_at byte k) 1
pixel-is k byte left low fits is = grind (arith, bit-is, cases_eq, eq-eqb, ne_eqb)
