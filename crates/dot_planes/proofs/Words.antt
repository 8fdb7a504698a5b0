-- The dots of eight bytes as one number.
use Rattle.std.proofs.Common.{◌≡◌, ℕ, zero, suc, ◌+◌, ◌-◌, ◌*◌, ◌/◌, ◌%◌, ◌^◌, ◌==◌, ◌<◌, ◌≤◌, List, length, get_or, max, sym, ◌∙◌, ap, arith, bit_or}
use Rattle.std.proofs.Math.Nat.{mod-eq-sub-div-mul, div-mul-le_self, mod-lt}
use Rattle.std.proofs.lemmas.Nat.{be_bytes_8}
use Rattle.std.proofs.lemmas.Nat.Bits.{bit_at-zero, bit_at_above, bit_at_cat_high, bit_at_cat_low, bit_at_or}
use Rattle.std.specs.Int.{w64, bit_at as bit, from_be_bytes, to_be_bytes}
use Rattle.base_definitions.specs.Packed.{bit_at}
use Rattle.dot_planes.specs.Tables.{row_dot}
use Rattle.dot_planes.proofs.Bytes.{low_bit, shr_bit}

-- a bit of a byte is one of the number
byte_bit : (n a j : ℕ) → j < 8 → bit (n / 2 ^ a % 256) j ≡ bit n (a + j)
byte_bit n a j low = low_bit (n / 2 ^ a) j low ∙ shr_bit n a j

pub written_bit : (n i j : ℕ) → i < 8 → j < 8 → bit (get_or (to_be_bytes w64 n) i 0) j ≡ bit n (8 * (7 - i) + j)
written_bit n zero j few low = byte_bit n 56 j low
written_bit n (suc zero) j few low = byte_bit n 48 j low
written_bit n (suc (suc zero)) j few low = byte_bit n 40 j low
written_bit n (suc (suc (suc zero))) j few low = byte_bit n 32 j low
written_bit n (suc (suc (suc (suc zero)))) j few low = byte_bit n 24 j low
written_bit n (suc (suc (suc (suc (suc zero))))) j few low = byte_bit n 16 j low
written_bit n (suc (suc (suc (suc (suc (suc zero)))))) j few low = byte_bit n 8 j low
written_bit n (suc (suc (suc (suc (suc (suc (suc zero))))))) j few low = grind (arith, low_bit)
written_bit n (suc (suc (suc (suc (suc (suc (suc (suc i)))))))) j few low = absurd (omega arith)

pub read_bit : (bs : List ℕ) (i j : ℕ) → length bs ≡ 8 → ((k : ℕ) → get_or bs k 0 < 256) → i < 8 → j < 8
    → bit (from_be_bytes w64 bs) (8 * (7 - i) + j) ≡ bit (get_or bs i 0) j
read_bit bs i j len fits few low = grind (arith, be_bytes_8, written_bit)

-- ---- a number that is moved to the left, with a few other bits after it

abbrev pub moved_word : ℕ → ℕ → ℕ → ℕ
moved_word v s last = bit_or (v * 2 ^ s % 2 ^ 64) (last % 2 ^ s)

whole_bit : (n p : ℕ) → p < 64 → bit (n % 2 ^ 64) p ≡ bit n p
whole_bit n p low =
    let parts : n / 2 ^ 64 * 2 ^ 64 + n % 2 ^ 64 ≡ n = omega arith in
    sym (bit_at_cat_low (n / 2 ^ 64) 64 (n % 2 ^ 64) p low) ∙ ap (λ m. bit m p) parts

pub moved_high : (v s last p : ℕ) → 0 < 2 ^ s → s ≤ p → p < 64 → bit (moved_word v s last) p ≡ bit v (p - s)
moved_high v s last p some from low =
    let all : v * 2 ^ s + 0 ≡ v * 2 ^ s = omega arith in
    let kept : last % 2 ^ s < 2 ^ s = mod-lt last some in
    let high : bit (v * 2 ^ s % 2 ^ 64) p ≡ bit v (p - s) =
    whole_bit (v * 2 ^ s) p low ∙ sym (ap (λ m. bit m p) all) ∙ bit_at_cat_high v s 0 p some from in
    bit_at_or (v * 2 ^ s % 2 ^ 64) (last % 2 ^ s) p
    ∙ ap (λ b. max b (bit (last % 2 ^ s) p)) high ∙ ap (λ b. max (bit v (p - s)) b) (bit_at_above (last % 2 ^ s) s p kept from)
    ∙ omega arith

pub moved_low : (v s last p : ℕ) → p < s → p < 64 → bit (moved_word v s last) p ≡ bit last p
moved_low v s last p before low =
    let all : v * 2 ^ s + 0 ≡ v * 2 ^ s = omega arith in
    let none : bit (v * 2 ^ s % 2 ^ 64) p ≡ 0 =
    whole_bit (v * 2 ^ s) p low ∙ sym (ap (λ m. bit m p) all) ∙ bit_at_cat_low v s 0 p before ∙ bit_at-zero p in
    let parts : last / 2 ^ s * 2 ^ s + last % 2 ^ s ≡ last =
    omega (arith, mod-eq-sub-div-mul last (2 ^ s), div-mul-le_self last (2 ^ s)) in
    bit_at_or (v * 2 ^ s % 2 ^ 64) (last % 2 ^ s) p
    ∙ ap (λ b. max b (bit (last % 2 ^ s) p)) none
    ∙ (let max_is : max 0 (bit (last % 2 ^ s) p) ≡ bit (last % 2 ^ s) p = omega arith in max_is)
    ∙ sym (bit_at_cat_low (last / 2 ^ s) s (last % 2 ^ s) p before) ∙ ap (λ m. bit m p) parts

-- ---- as dots

pub moved_dot : (dots : List ℕ) (s last n k offset : ℕ) → length dots ≡ 8 → ((i : ℕ) → get_or dots i 0 < 256) → 0 < 2 ^ s
    → n < 8 → k < 8 → offset < 64 → 8 * n + s + k ≡ offset
    → bit_at (get_or (to_be_bytes w64 (moved_word (from_be_bytes w64 dots) s last)) n 0) k ≡ row_dot dots offset
moved_dot dots s last n k offset len fits some few low inside here =
    let v : ℕ = from_be_bytes w64 dots in
    let p : ℕ = 8 * (7 - n) + (7 - k) in
    let place : p - s ≡ 8 * (7 - offset / 8) + (7 - offset % 8) = omega arith in
    ap (λ b. b == 1) (written_bit (moved_word v s last) n (7 - k) few (omega arith)
    ∙ moved_high v s last p some (omega arith) (omega arith) ∙ ap (bit v) place
    ∙ read_bit dots (offset / 8) (7 - offset % 8) len fits (omega arith) (omega arith))

pub moved_rest : (dots : List ℕ) (s last k : ℕ) → k < 8 → 8 ≤ k + s → s < 8
    → bit_at (get_or (to_be_bytes w64 (moved_word (from_be_bytes w64 dots) s last)) 7 0) k ≡ bit_at last k
moved_rest dots s last k low past few =
    let word : ℕ = moved_word (from_be_bytes w64 dots) s last in
    let place : 8 * (7 - 7) + (7 - k) ≡ 7 - k = omega arith in
    ap (λ b. b == 1) (written_bit word 7 (7 - k) (omega arith) (omega arith) ∙ ap (bit word) place
    ∙ moved_low (from_be_bytes w64 dots) s last (7 - k) (omega arith) (omega arith))
