-- The dots of one row of a raster.
use Rattle.std.proofs.Common.{◌≡◌, ℕ, zero, suc, ◌+◌, ◌-◌, ◌*◌, ◌/◌, ◌%◌, ◌==◌, ◌<◌, ◌≤◌, Bool, true, false, ◌&&◌, ◌||◌, nat_le, List, []}
use Rattle.std.proofs.Common.{◌∷◌, length, take, refl, ◌∙◌, sym, ap, arith, inl, inr, length-append, length-take}
use Rattle.std.specs.List.{list_any}
use Rattle.std.proofs.Math.Nat.{mul-div_cancel}
use Rattle.std.proofs.lemmas.Bool.{cases_eq, eq-eqb, ne_eqb}
use Rattle.std.proofs.lemmas.List.{get_or-take}
use Rattle.printer_definitions.specs.declared.inks.Ink.{Ink}
use Rattle.base_definitions.specs.Packed.{bits, byte_bits}
use Rattle.escp2_definitions.specs.Machine.{Dot, row_dots}
use Rattle.base_definitions.specs.Packed.{at}
use Rattle.base_definitions.specs.Counting.{count_from}
use Rattle.dot_planes.specs.Laying.{has_dot}
use Rattle.dot_planes.specs.Tables.{row_dot}
use Rattle.dot_planes.proofs.PackedRows.{next_byte, no_bit}

-- ---- tests of n numbers

pub any-same : (f g : ℕ → Bool) (m n : ℕ)
    → ((k : ℕ) → k < n → f (m + k) ≡ g (m + k)) → list_any f (count_from m n) ≡ list_any g (count_from m n)
any-same f g m zero same = refl
any-same f g m (suc n) same =
    ap (λ b. b || list_any f (count_from (m + 1) n)) (ap f (omega arith) ∙ same 0 (omega arith) ∙ ap g (omega arith))
    ∙ ap (λ b. g m || b) (any-same f g (m + 1) n (λ k low. ap f (omega arith) ∙ same (suc k) (omega arith) ∙ ap g (omega arith)))

-- a test with a fact that no number changes
pub any-and : (f : ℕ → Bool) (b : Bool) (m n : ℕ) → list_any (λ k. f k && b) (count_from m n) ≡ (b && list_any f (count_from m n))
any-and f true m zero = refl
any-and f false m zero = refl
any-and f true m (suc n) = ap (λ d. d || list_any (λ k. f k && true) (count_from (m + 1) n)) (and_true (f m))
    ∙ ap (λ d. f m || d) (any-and f true (m + 1) n)
  where
    and_true : (a : Bool) → (a && true) ≡ a
    and_true true = refl
    and_true false = refl
any-and f false m (suc n) = ap (λ d. d || list_any (λ k. f k && false) (count_from (m + 1) n)) (and_false (f m)) ∙ any-and f false (m + 1) n
  where
    and_false : (a : Bool) → (a && false) ≡ false
    and_false true = refl
    and_false false = refl

-- products by one number
pub eqb-times : (a b c : ℕ) → 1 ≤ c → (a * c == b * c) ≡ (a == b)
eqb-times a b c some = elim (cases_eq a b) [
  | inl same ↦ eq-eqb (a * c) (b * c) (ap (λ n. n * c) same) ∙ sym (eq-eqb a b same)
  | inr other ↦ ne_eqb (a * c) (b * c)
      (λ e. other (sym (mul-div_cancel a some) ∙ ap (λ n. n / c) e ∙ mul-div_cancel b some)) ∙ sym (ne_eqb a b other)
]

-- ---- bits

bits-at : (row : List ℕ) (k : ℕ) → at (bits row) k ≡ row_dot row k
bits-at [] k = sym (no_bit (k % 8))
bits-at (b ∷ row) zero = refl
bits-at (b ∷ row) (suc zero) = refl
bits-at (b ∷ row) (suc (suc zero)) = refl
bits-at (b ∷ row) (suc (suc (suc zero))) = refl
bits-at (b ∷ row) (suc (suc (suc (suc zero)))) = refl
bits-at (b ∷ row) (suc (suc (suc (suc (suc zero))))) = refl
bits-at (b ∷ row) (suc (suc (suc (suc (suc (suc zero)))))) = refl
bits-at (b ∷ row) (suc (suc (suc (suc (suc (suc (suc zero))))))) = refl
bits-at (b ∷ row) (suc (suc (suc (suc (suc (suc (suc (suc k)))))))) =
    let place : 8 + k ≡ suc (suc (suc (suc (suc (suc (suc (suc k))))))) = omega arith in
    bits-at row k ∙ sym (next_byte b row k) ∙ ap (row_dot (b ∷ row)) place

bits-len : (row : List ℕ) → length (bits row) ≡ 8 * length row
bits-len [] = refl
bits-len (b ∷ row) = omega (arith, length-append (byte_bits b) (bits row), bits-len row)

-- ---- the dots of a row

-- a test of the dots is one of their places
abbrev PlacesFrom : (Dot → Bool) → Ink → ℕ → ℕ → ℕ → ℕ → List Bool → Type 0
PlacesFrom f ink x step y m bools =
    list_any f (row_dots ink (x + m * step) step y bools) ≡ list_any
    (λ k. at bools (k - m) && f (record { ink = ink; x = x + k * step; y = y })) (count_from m (length bools))

-- one dot more
more-dots : (f : Dot → Bool) (ink : Ink) (x step y m : ℕ) (b : Bool) (bools : List Bool)
    → PlacesFrom f ink x step y (m + 1) bools → PlacesFrom f ink x step y m (b ∷ bools)
more-dots f ink x step y m b bools later = by_dot b
  where
    rest : (d : Bool) → list_any f (row_dots ink (x + m * step + step) step y bools) ≡ list_any (λ k. at
        (d ∷ bools) (k - m) && f (record { ink = ink; x = x + k * step; y = y })) (count_from (m + 1) (length bools))
    rest d =
        let next : x + m * step + step ≡ x + (m + 1) * step = grind arith in
        ap (λ n. list_any f (row_dots ink n step y bools)) next
        ∙ later
        ∙ any-same _ _ (m + 1) (length bools) (λ k low.
        let here : m + 1 + k - (m + 1) ≡ k = omega arith in
        let behind : m + 1 + k - m ≡ suc k = omega arith in
        ap (λ n. at bools n && f (record { ink = ink; x = x + (m + 1 + k) * step; y = y })) here
        ∙ sym (ap (λ n. at (d ∷ bools) n && f (record { ink = ink; x = x + (m + 1 + k) * step; y = y })) behind))

    by_dot : (d : Bool) → list_any f (row_dots ink (x + m * step) step y (d ∷ bools)) ≡ list_any (λ k. at
        (d ∷ bools) (k - m) && f (record { ink = ink; x = x + k * step; y = y })) (count_from m (suc (length bools)))
    by_dot true =
        let first : m - m ≡ 0 = omega arith in
        ap (λ e. f (record { ink = ink; x = x + m * step; y = y }) || e) (rest true)
        ∙ sym (ap (λ n. (at (true ∷ bools) n && f (record { ink = ink; x = x + m * step; y = y }))
        || list_any (λ k. at (true ∷ bools) (k - m) && f (record { ink = ink; x = x + k * step; y = y }))
        (count_from (m + 1) (length bools))) first)
    by_dot false =
        let first : m - m ≡ 0 = omega arith in
        rest false
        ∙ sym (ap (λ n. (at (false ∷ bools) n && f (record { ink = ink; x = x + m * step; y = y }))
        || list_any (λ k. at (false ∷ bools) (k - m) && f (record { ink = ink; x = x + k * step; y = y }))
        (count_from (m + 1) (length bools))) first)

row-any-from : (f : Dot → Bool) (ink : Ink) (x step y m : ℕ) (bools : List Bool) → PlacesFrom f ink x step y m bools
row-any-from f ink x step y m [] = refl
row-any-from f ink x step y m (b ∷ bools) = more-dots f ink x step y m b bools (row-any-from f ink x step y (m + 1) bools)

-- a test of the dots of a packed row
pub row-any : (f : Dot → Bool) (ink : Ink) (x step y n : ℕ) (row : List ℕ) → n ≤ 8 * length row
    → list_any f (row_dots ink (x * step) step y (take n (bits row)))
    ≡ list_any (λ k. row_dot row k && f (record { ink = ink; x = (x + k) * step; y = y })) (count_from 0 n)
row-any f ink x step y n row long =
    let dots : List Bool = take n (bits row) in
    let len : length dots ≡ n = omega (arith, length-take n (bits row), bits-len row) in
    let first : x * step ≡ x * step + 0 * step = omega arith in
    ap (λ m. list_any f (row_dots ink m step y dots)) first
    ∙ row-any-from f ink (x * step) step y 0 dots
    ∙ ap (λ m. list_any (λ k. at dots (k - 0) && f (record { ink = ink; x = x * step + k * step; y = y })) (count_from 0 m)) len
    ∙ any-same _ _ 0 n (λ k low.
    let here : 0 + k - 0 ≡ k = omega arith in
    let place : 0 + k ≡ k = omega arith in
    let column : x * step + (0 + k) * step ≡ (x + (0 + k)) * step = grind arith in
    ap (λ m. at dots m && f (record { ink = ink; x = x * step + (0 + k) * step; y = y })) here
    ∙ ap (λ b. b && f (record { ink = ink; x = x * step + (0 + k) * step; y = y })) (get_or-take n (bits row) k false low ∙ bits-at row k)
    ∙ ap (λ m. row_dot row m && f (record { ink = ink; x = x * step + (0 + k) * step; y = y })) (sym place)
    ∙ ap (λ m. row_dot row (0 + k) && f (record { ink = ink; x = m; y = y })) column)

-- whether a packed row has a dot
pub row-has : (ink : Ink) (x step y n : ℕ) (row : List ℕ) → n ≤ 8 * length row
    → list_any (λ d. true) (row_dots ink (x * step) step y (take n (bits row))) ≡ has_dot row n
row-has ink x step y n row long = row-any (λ d. true) ink x step y n row long ∙ any-and (row_dot row) true 0 n

-- whether it has one at or below a place
pub row-below : (bottom : ℕ) (ink : Ink) (x step y n : ℕ) (row : List ℕ) → n ≤ 8 * length row
    → list_any (λ d. nat_le bottom d.y) (row_dots ink (x * step) step y (take n (bits row))) ≡ (nat_le bottom y && has_dot row n)
row-below bottom ink x step y n row long =
    row-any (λ d. nat_le bottom d.y) ink x step y n row long ∙ any-and (row_dot row) (nat_le bottom y) 0 n
