-- From the mask of sixteen lanes to the first lane that is set.
use Rattle.std.proofs.Common.{◌≡◌, ℕ, ◌+◌, ◌%◌, ◌^◌, ◌<◌, ◌≤◌, ◌⊎◌, ◌≢◌, ◌==◌, ◌&&◌, Bool, true, false, not, List, map, length, get_or, replicate, bit_and, sym, ap, ap₂, ◌∙◌, arith, inl, inr, eq-eqb}
use Rattle.std.proofs.lemmas.Bool.{cases_eq, cond-true, cond-false, ne_eqb, not-true, not-false}
use Rattle.std.proofs.lemmas.Simd.{get_or-chunk, get_or-replicate, get_or-zip2, leading_from_mask_l, length-chunk, length-zip2, mask_l-mod, trailing_mask_l}
use Rattle.std.proofs.lemmas.List.{length-map, length-replicate}
use Rattle.std.proofs.lemmas.List.Sums.{prefix_len-le-length, prefix_len_passes, prefix_len_stops}
use Rattle.std.specs.List.{prefix_len}
use lib.Lanes.{chunk, mask_l, top, zip2}
use Rattle.escp2_rows.specs.Passing.{are_three, first_of_sixteen}

-- What the lowest bit that is set says of the lanes.
pub record FirstSet (lanes : List ℕ) (r : ℕ) : Type 0 where
  pub few : r ≤ 16
  pub before : (i : ℕ) → i < r → top 7 (get_or lanes i 0) ≡ false
  pub there : r < 16 → top 7 (get_or lanes r 0) ≡ true

pub first_is : (lanes : List ℕ) (r : ℕ) → length lanes ≡ 16 → r ≡ first_of_sixteen (mask_l (map (top 7) lanes) % 2 ^ 64) → FirstSet lanes r
first_is lanes r long found = record {
  few = omega (arith, counted, long, prefix_len-le-length clear lanes);
  before = λ i less. not-true _ (prefix_len_passes clear lanes i 0 (omega (arith, counted)));
  there = λ less. ap (λ n. top 7 (get_or lanes n 0)) counted ∙ not-false _ (prefix_len_stops clear lanes 0 (omega (arith, counted, long)));
}
  where
    clear : ℕ → Bool
    clear x = not (top 7 x)

    run : first_of_sixteen (mask_l (map (top 7) lanes)) ≡ prefix_len clear lanes
    run = elim (cases_eq (mask_l (map (top 7) lanes)) 0) [
      | inl none ↦ cond-true _ _ _ (eq-eqb _ _ none) ∙ sym (leading_from_mask_l (top 7) lanes none ∙ long)
      | inr some ↦ cond-false _ _ _ (ne_eqb _ _ some) ∙ trailing_mask_l (top 7) 64 lanes (omega arith) (omega arith)
    ]

    counted : r ≡ prefix_len clear lanes
    counted = found ∙ ap first_of_sixteen (mask_l-mod (map (top 7) lanes) 64 (omega (arith, length-map lanes (top 7), long))) ∙ run

-- Which of sixteen bytes are another one's, by a comparison that sets a lane where they are not.
pub record SameBytes (row : List ℕ) (byte r : ℕ) : Type 0 where
  pub few : r ≤ 16
  pub same : (i : ℕ) → i < r → get_or row i 0 ≡ byte
  pub other : r < 16 → get_or row r 0 ≢ byte

pub same_bytes : (row : List ℕ) (byte r : ℕ) (f : ℕ → ℕ → ℕ) → 16 ≤ length row → ((x : ℕ) → f x x ≡ 0) → ((x y : ℕ) → x ≢ y → f x y ≡ 255)
    → r ≡ first_of_sixteen (mask_l (map (top 7) (zip2 f (chunk 0 16 row) (replicate 16 byte))) % 2 ^ 64) → SameBytes row byte r
same_bytes row byte r f room hit miss found = record {
  few = first.few;
  same = λ i less. by_case i less (cases_eq (get_or row i 0) byte);
  other = λ less e. absurd (let no : false ≡ true = sym (ap (top 7) (ap (λ x. f x byte) e ∙ hit byte)) ∙ sym (ap (top 7) (lane r less)) ∙ first.there less in cc);
}
  where
    lanes : List ℕ
    lanes = zip2 f (chunk 0 16 row) (replicate 16 byte)

    long_row : length (chunk 0 16 row) ≡ 16
    long_row = length-chunk 0 16 row (omega arith)

    long_byte : length (replicate 16 byte) ≡ 16
    long_byte = length-replicate {A = ℕ} 16 byte

    lane : (i : ℕ) → i < 16 → get_or lanes i 0 ≡ f (get_or row i 0) byte
    lane i less =
        get_or-zip2 f (chunk 0 16 row) (replicate 16 byte) i 0 0 0 (omega (arith, long_row)) (omega (arith, long_byte))
        ∙ ap₂ f (get_or-chunk 0 16 row i 0 (omega (arith, long_row)) ∙ ap (λ n. get_or row n 0) (let e : 0 + i ≡ i = omega arith in e)) (get_or-replicate 16 i byte 0 less)

    first : FirstSet lanes r
    first = first_is lanes r (length-zip2 f (chunk 0 16 row) (replicate 16 byte) (long_row ∙ sym long_byte) ∙ long_row) found

    by_case : (i : ℕ) → i < r → (get_or row i 0 ≡ byte) ⊎ (get_or row i 0 ≢ byte) → get_or row i 0 ≡ byte
    by_case i less (inl e) = e
    by_case i less (inr ne) =
        absurd (let no : true ≡ false = sym (ap (top 7) (lane i (omega (arith, first.few)) ∙ miss (get_or row i 0) byte ne)) ∙ first.before i less in cc)

-- At which of sixteen places no three equal bytes begin, by comparisons that set a lane where two are equal.
pub record ApartPlaces (row : List ℕ) (r : ℕ) : Type 0 where
  pub few : r ≤ 16
  pub apart : (i : ℕ) → i < r → are_three row i ≡ false
  pub three : r < 16 → are_three row r ≡ true

pub apart_places : (row : List ℕ) (r : ℕ) (f : ℕ → ℕ → ℕ) → 18 ≤ length row → ((x : ℕ) → f x x ≡ 255) → ((x y : ℕ) → x ≢ y → f x y ≡ 0)
    → r ≡ first_of_sixteen (mask_l (map (top 7) (zip2 bit_and (zip2 f (chunk 0 16 row) (chunk 1 16 row)) (zip2 f (chunk 1 16 row) (chunk 2 16 row)))) % 2 ^ 64)
    → ApartPlaces row r
apart_places row r f room hit miss found = record {
  few = first.few;
  apart = λ i less. sym (lane i (omega (arith, first.few))) ∙ first.before i less;
  three = λ less. sym (lane r less) ∙ first.there less;
}
  where
    a : List ℕ
    a = chunk 0 16 row

    b : List ℕ
    b = chunk 1 16 row

    c : List ℕ
    c = chunk 2 16 row

    long_a : length a ≡ 16
    long_a = length-chunk 0 16 row (omega arith)

    long_b : length b ≡ 16
    long_b = length-chunk 1 16 row (omega arith)

    long_c : length c ≡ 16
    long_c = length-chunk 2 16 row (omega arith)

    long_ab : length (zip2 f a b) ≡ 16
    long_ab = length-zip2 f a b (long_a ∙ sym long_b) ∙ long_a

    long_bc : length (zip2 f b c) ≡ 16
    long_bc = length-zip2 f b c (long_b ∙ sym long_c) ∙ long_b

    lanes : List ℕ
    lanes = zip2 bit_and (zip2 f a b) (zip2 f b c)

    first : FirstSet lanes r
    first = first_is lanes r (length-zip2 bit_and (zip2 f a b) (zip2 f b c) (long_ab ∙ sym long_bc) ∙ long_ab) found

    both : (x y z : ℕ) → top 7 (bit_and (f x y) (f y z)) ≡ ((x == y) && (y == z))
    both x y z = by_case (cases_eq x y) (cases_eq y z)
      where
        by_case : (x ≡ y) ⊎ (x ≢ y) → (y ≡ z) ⊎ (y ≢ z) → top 7 (bit_and (f x y) (f y z)) ≡ ((x == y) && (y == z))
        by_case (inl xy) (inl yz) =
            ap (top 7) (ap₂ bit_and (ap (λ k. f x k) (sym xy) ∙ hit x) (ap (λ k. f y k) (sym yz) ∙ hit y)) ∙ sym (ap₂ (λ s t. s && t) (eq-eqb x y xy) (eq-eqb y z yz))
        by_case (inl xy) (inr yz) =
            ap (top 7) (ap₂ bit_and (ap (λ k. f x k) (sym xy) ∙ hit x) (miss y z yz)) ∙ sym (ap₂ (λ s t. s && t) (eq-eqb x y xy) (ne_eqb y z yz))
        by_case (inr xy) (inl yz) =
            ap (top 7) (ap₂ bit_and (miss x y xy) (ap (λ k. f y k) (sym yz) ∙ hit y)) ∙ sym (ap₂ (λ s t. s && t) (ne_eqb x y xy) (eq-eqb y z yz))
        by_case (inr xy) (inr yz) =
            ap (top 7) (ap₂ bit_and (miss x y xy) (miss y z yz)) ∙ sym (ap₂ (λ s t. s && t) (ne_eqb x y xy) (ne_eqb y z yz))

    at : (n i : ℕ) → n + 16 ≤ length row → i < 16 → get_or (chunk n 16 row) i 0 ≡ get_or row (i + n) 0
    at n i within less =
        get_or-chunk n 16 row i 0 (omega (arith, length-chunk n 16 row within)) ∙ ap (λ k. get_or row k 0) (let e : n + i ≡ i + n = omega arith in e)

    lane : (i : ℕ) → i < 16 → top 7 (get_or lanes i 0) ≡ are_three row i
    lane i less =
        ap (top 7) (get_or-zip2 bit_and (zip2 f a b) (zip2 f b c) i 0 0 0 (omega (arith, long_ab)) (omega (arith, long_bc))
        ∙ ap₂ bit_and
        (get_or-zip2 f a b i 0 0 0 (omega (arith, long_a)) (omega (arith, long_b))
        ∙ ap₂ f (at 0 i (omega arith) less ∙ ap (λ k. get_or row k 0) (let e : i + 0 ≡ i = omega arith in e)) (at 1 i (omega arith) less))
        (get_or-zip2 f b c i 0 0 0 (omega (arith, long_b)) (omega (arith, long_c))
        ∙ ap₂ f (at 1 i (omega arith) less) (at 2 i (omega arith) less)))
        ∙ both (get_or row i 0) (get_or row (i + 1) 0) (get_or row (i + 2) 0)
