-- How many of the first bits of a row are 1.
use Rattle.std.proofs.Common.{◌≡◌, ℕ, zero, suc, ◌+◌, ◌-◌, ◌*◌, ◌/◌, ◌^◌, ◌<◌, ◌≤◌, Bool, true, eqb, cond, List, [], ◌∷◌}
use Rattle.std.proofs.Common.{◌++◌, length, take, get_or, count_by, count_ones, sum_by, refl, sym, ◌∙◌, ap, arith}
use Rattle.std.proofs.lemmas.Bool.{agree_below, agree_below_at, eqb-true}
use Rattle.std.proofs.lemmas.List.{take-append-le}
use Rattle.std.proofs.lemmas.List.Sums.{sum_by-append, sum_by-cons, sum_by_more}
use Rattle.std.proofs.Math.Seq.{take-append-add}
use lib.Count.{ones, ones_in}
use Rattle.base_definitions.specs.Packed.{bits, byte_bits}
use Rattle.escp2_laws.proofs.Grammar.{AreBytes}

abbrev pub on_count : List Bool → ℕ
on_count row = count_by (λ on. on) row

-- ---- one byte

-- the first r bits of a byte are as many as the bits of what is left when the others are shifted out
test_first : ℕ → ℕ → Bool
test_first r byte = eqb (on_count (take r (byte_bits byte))) (count_ones (byte / 2 ^ (8 - r)))

-- those of each byte are
all_first : agree_below (λ r. agree_below (test_first r) (λ byte. true) 256) (λ r. true) 9 ≡ true
unfolding test_first ones ones_in
all_first = refl

pub first_bits : (r byte : ℕ) → r ≤ 8 → byte < 256 → on_count (take r (byte_bits byte)) ≡ count_ones (byte / 2 ^ (8 - r))
unfolding test_first
first_bits r byte few low =
    let of_r = agree_below_at (λ r. agree_below (test_first r) (λ byte. true) 256) (λ r. true) 9 r all_first (omega arith) in
    eqb-true _ _ (agree_below_at (test_first r) (λ byte. true) 256 byte of_r low)

-- ---- a row

count-append : (xs ys : List Bool) → on_count (xs ++ ys) ≡ on_count xs + on_count ys
count-append xs ys = sum_by-append (λ on. cond on 1 0) xs ys

-- the first bits of a row: whole bytes, and the first bits of the next
pub row_bits : (row : List ℕ) (w r : ℕ) → AreBytes row → w < length row → r ≤ 8
    → on_count (take (8 * w + r) (bits row)) ≡ sum_by count_ones (take w row) + count_ones (get_or row w 0 / 2 ^ (8 - r))
row_bits [] w r are in_row few = absurd (omega arith)
row_bits (b ∷ row) zero r are in_row few =
    let none : 8 * 0 + r ≡ r = omega arith in
    ap (λ n. on_count (take n (byte_bits b ++ bits row))) none
    ∙ ap on_count (take-append-le r (byte_bits b) (bits row) few)
    ∙ first_bits r b few (are 0)
    ∙ omega arith
row_bits (b ∷ row) (suc w) r are in_row few =
    let more : 8 * suc w + r ≡ 8 + (8 * w + r) = omega arith in
    let rest : on_count (take (8 * w + r) (bits row)) ≡ sum_by count_ones (take w row) + count_ones (get_or row w 0 / 2 ^ (8 - r)) =
    row_bits row w r (λ k. are (suc k)) (omega arith) few in
    let this : on_count (byte_bits b) ≡ count_ones b = first_bits 8 b (omega arith) (are 0) ∙ ap count_ones (omega arith) in
    let first : sum_by count_ones (take (suc w) (b ∷ row)) ≡ count_ones b + sum_by count_ones (take w row) =
    sum_by-cons count_ones b (take w row) in
    ap (λ n. on_count (take n (byte_bits b ++ bits row))) more
    ∙ ap on_count (take-append-add (byte_bits b) (bits row) (8 * w + r))
    ∙ count-append (byte_bits b) (take (8 * w + r) (bits row))
    ∙ omega (arith, rest, this, first)

-- whole bytes alone
pub whole_bits : (row : List ℕ) (w : ℕ) → AreBytes row → w ≤ length row
    → on_count (take (8 * w) (bits row)) ≡ sum_by count_ones (take w row)
whole_bits row zero are in_row = refl
whole_bits row (suc w) are in_row =
    let last : 8 * suc w ≡ 8 * w + 8 = omega arith in
    let one : suc w ≡ w + 1 = omega arith in
    let all : get_or row w 0 / 2 ^ (8 - 8) ≡ get_or row w 0 = omega arith in
    ap (λ n. on_count (take n (bits row))) last
    ∙ row_bits row w 8 are (omega arith) (omega arith)
    ∙ ap (λ b. sum_by count_ones (take w row) + count_ones b) all
    ∙ sym (ap (λ n. sum_by count_ones (take n row)) one ∙ sum_by_more count_ones row w 0 (omega arith))
