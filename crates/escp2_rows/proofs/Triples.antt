-- Where three equal bytes begin, and where pairs do.
use Rattle.std.proofs.Common.{◌≡◌, ℕ, ◌+◌, ◌-◌, ◌<◌, ◌≤◌, ◌==◌, ◌&&◌, ◌⊎◌, ◌≢◌, inl, inr, true, false, List, [], ◌∷◌, length, drop, get_or, sym, ◌∙◌, ap, arith, length-drop, eq-eqb}
use Rattle.std.proofs.lemmas.Bool.{cases_eq, cases_lt, ne_eqb}
use Rattle.std.proofs.lemmas.List.{get_or-drop}
use Rattle.escp2_definitions.specs.Least.{equal_at}
use Rattle.escp2_laws.proofs.Fewest.{equal_within}
use Rattle.escp2_rows.proofs.Ends.{equal_apart, equal_first, equal_last}
use Rattle.escp2_rows.proofs.Passing.{equal_some}
use Rattle.escp2_rows.specs.Passing.{are_three}

-- the first three bytes
pub front_three : (row : List ℕ) → 3 ≤ length row → are_three row 0 ≡ true → 3 ≤ equal_at row
front_three [] some e = absurd (omega arith)
front_three (a ∷ []) some e = absurd (omega arith)
front_three (a ∷ b ∷ []) some e = absurd (omega arith)
front_three (a ∷ b ∷ c ∷ row) some e = by_test (cases_eq a b) (cases_eq b c)
  where
    by_test : (a ≡ b) ⊎ (a ≢ b) → (b ≡ c) ⊎ (b ≢ c) → 3 ≤ equal_at (a ∷ b ∷ c ∷ row)
    by_test (inl ab) (inl bc) =
        omega (arith, equal_first a b (c ∷ row) ab, equal_first b c row bc, equal_some (c ∷ row) (omega arith))
    by_test (inr ne) t = absurd (let no : false ≡ true = sym (ap (λ t. t && (b == c)) (ne_eqb a b ne)) ∙ e in cc)
    by_test (inl ab) (inr ne) =
        absurd (let no : false ≡ true = sym (ap (λ t. t && (b == c)) (eq-eqb a b ab) ∙ ne_eqb b c ne) ∙ e in cc)

pub front_apart : (row : List ℕ) → 3 ≤ length row → are_three row 0 ≡ false → equal_at row ≤ 2
front_apart [] some e = absurd (omega arith)
front_apart (a ∷ []) some e = absurd (omega arith)
front_apart (a ∷ b ∷ []) some e = absurd (omega arith)
front_apart (a ∷ b ∷ c ∷ row) some e = by_test (cases_eq a b) (cases_eq b c)
  where
    by_test : (a ≡ b) ⊎ (a ≢ b) → (b ≡ c) ⊎ (b ≢ c) → equal_at (a ∷ b ∷ c ∷ row) ≤ 2
    by_test (inr ne) t = omega (arith, equal_apart a b (c ∷ row) ne)
    by_test (inl ab) (inr ne) = omega (arith, equal_first a b (c ∷ row) ab, equal_apart b c row ne)
    by_test (inl ab) (inl bc) = absurd (let no : true ≡ false = sym (ap (λ t. t && (b == c)) (eq-eqb a b ab) ∙ eq-eqb b c bc) ∙ e in cc)

-- three bytes of a row from a place on
pub three_on : (row : List ℕ) (at i : ℕ) → are_three (drop at row) i ≡ are_three row (at + i)
three_on row at i =
    ap (λ k. (k == get_or (drop at row) (i + 1) 0) && (get_or (drop at row) (i + 1) 0 == get_or (drop at row) (i + 2) 0)) (get_or-drop at row i 0)
    ∙ ap (λ k. (get_or row (at + i) 0 == k) && (k == get_or (drop at row) (i + 2) 0))
    (get_or-drop at row (i + 1) 0 ∙ ap (λ n. get_or row n 0) (let e : at + (i + 1) ≡ at + i + 1 = omega arith in e))
    ∙ ap (λ k. (get_or row (at + i) 0 == get_or row (at + i + 1) 0) && (get_or row (at + i + 1) 0 == k))
    (get_or-drop at row (i + 2) 0 ∙ ap (λ n. get_or row n 0) (let e : at + (i + 2) ≡ at + i + 2 = omega arith in e))

three_from : (row : List ℕ) (i : ℕ) → are_three (drop i row) 0 ≡ are_three row i
three_from row i = three_on row i 0 ∙ ap (are_three row) (let e : i + 0 ≡ i = omega arith in e)

pub three_many : (row : List ℕ) (i : ℕ) → i + 2 < length row → are_three row i ≡ true → 3 ≤ equal_at (drop i row)
three_many row i room e = front_three (drop i row) (omega (arith, length-drop i row)) (three_from row i ∙ e)

-- so many places at which no three equal bytes begin
pub places_few : (row : List ℕ) (at count : ℕ) → at + count + 2 ≤ length row → ((j : ℕ) → j < count → are_three (drop at row) j ≡ false)
    → (i : ℕ) → at ≤ i → i < at + count → equal_at (drop i row) ≤ 2
places_few row at count room apart i on less =
    let there : i ≡ at + (i - at) = omega arith in
    front_apart (drop i row) (omega (arith, length-drop i row))
    (three_from row i ∙ ap (are_three row) there ∙ sym (three_on row at (i - at)) ∙ apart (i - at) (omega arith))

-- and those before
pub few_more : (row : List ℕ) (from at to : ℕ) → ((j : ℕ) → from ≤ j → j < at → equal_at (drop j row) ≤ 2)
    → ((j : ℕ) → at ≤ j → j < to → equal_at (drop j row) ≤ 2) → (i : ℕ) → from ≤ i → i < to → equal_at (drop i row) ≤ 2
few_more row from at to few more i on less = elim (cases_lt i at) [
  | inl before ↦ few i on before
  | inr behind ↦ more i behind less
]

-- at the end of a row no three bytes begin
pub end_few : (row : List ℕ) (i : ℕ) → length row ≤ i + 2 → equal_at (drop i row) ≤ 2
end_few row i end = omega (arith, (equal_within (drop i row)).1, length-drop i row)

-- ---- pairs

pub pair_two : (row : List ℕ) → length row ≡ 2 → get_or row 0 0 ≡ get_or row 1 0 → equal_at row ≡ 2
pair_two [] some same = absurd (omega arith)
pair_two (a ∷ []) some same = absurd (omega arith)
pair_two (a ∷ b ∷ []) some same = omega (arith, equal_first a b [] same, equal_last b)
pair_two (a ∷ b ∷ c ∷ row) some same = absurd (omega arith)

pub pair_more : (row : List ℕ) → 3 ≤ length row → get_or row 0 0 ≡ get_or row 1 0 → get_or row 1 0 ≢ get_or row 2 0 → equal_at row ≡ 2
pair_more [] some same apart = absurd (omega arith)
pair_more (a ∷ []) some same apart = absurd (omega arith)
pair_more (a ∷ b ∷ []) some same apart = absurd (omega arith)
pair_more (a ∷ b ∷ c ∷ row) some same apart = omega (arith, equal_first a b (c ∷ row) same, equal_apart b c row apart)
