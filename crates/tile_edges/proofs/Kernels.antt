-- The places of the shares of a kernel's table.
use Rattle.std.proofs.Common.{ℕ, ℤ, pos, suc, zero, ◌≡◌, ◌+◌, ◌-◌, ◌*◌, ◌+ℤ◌, ◌*ℤ◌, ◌<◌, ◌≤◌, ◌∙◌, ap, refl, sym, arith, List, [], ◌∷◌}
use Rattle.std.proofs.Common.{length, slice_index, inl, inr}
use Rattle.std.proofs.lemmas.Bool.{cases_lt}
use Rattle.std.proofs.lemmas.Int.{ints}
use Rattle.std.specs.Int.{int_div_euclid}
use Rattle.diffusion_definitions.specs.Diffusion.{Errors, Plane, Table, divisor, value_at, weighted_from}
use Rattle.diffusion_definitions.proofs.Places.{taken_from}
use Rattle.tile_edges.specs.Reads.{GivesTo, HasAllShares, HasShare, ReadsAt}

-- ---- the shares of a row

within_at : (shares : List ℕ) (i : ℕ) → 0 < slice_index shares i → i < length shares
within_at [] i some = absurd (omega arith)
within_at (s ∷ shares) zero some = omega arith
within_at (s ∷ shares) (suc i) some = let h : i < length shares = within_at shares i some in omega arith

-- ---- each share is read

-- The rows of a table are no longer than those of a printed one.
pub record IsNarrow (k : Table) : Type 0 where
  pub right : length k.right ≤ 2
  pub below : length k.below ≤ 5
  pub below2 : length k.below2 ≤ 5

has_share-near : (shares : List ℕ) (n reach most : ℕ) → length shares ≤ most → HasShare shares n reach → (n ≤ reach)
    × (reach + 1 ≤ n + most)
has_share-near shares n reach most few has =
    let within : has.share < length shares = within_at shares has.share has.some in
    (omega (arith, has.place), omega (arith, has.place))

pub gives_reads : (k : Table) (x y m n : ℕ) → IsNarrow k → GivesTo k x y m n → ReadsAt x y m n
gives_reads k x y m n narrow gives = elim gives [
  | inl same ↦ let near : (n ≤ x + 3) × (x + 3 + 1 ≤ n + 2) = has_share-near k.right n (x + 3) 2 narrow.right same.1 in
      inl (same.0, omega (arith, near.1), near.0)
  | inr above ↦ elim above [
    | inl one ↦ let near : (n ≤ x + 6) × (x + 6 + 1 ≤ n + 5) = has_share-near k.below n (x + 6) 5 narrow.below one.1 in
        inr (omega (arith, one.0), omega (arith, one.0), omega (arith, near.1), near.0)
    | inr two ↦ let near : (n ≤ x + 6) × (x + 6 + 1 ≤ n + 5) = has_share-near k.below2 n (x + 6) 5 narrow.below2 two.1 in
        inr (omega (arith, two.0), omega (arith, two.0), omega (arith, near.1), near.0)
  ]
]

-- ---- and what is read is given, by a table with no share of 0

share_at : (shares : List ℕ) (n reach most : ℕ) → ((i : ℕ) → i < most → 0 < slice_index shares i) → n ≤ reach → reach + 1 ≤ n + most
    → HasShare shares n reach
share_at shares n reach most all near far = record { share = reach - n; some = all (reach - n) (omega arith); place = omega arith }

pub reads_gives : (k : Table) (x y m n : ℕ) → HasAllShares k → ReadsAt x y m n → GivesTo k x y m n
reads_gives k x y m n full reads = elim reads [
  | inl same ↦ inl (same.0, share_at k.right n (x + 3) 2 full.right same.2 (omega (arith, same.1)))
  | inr above ↦ elim (cases_lt y m) [
    | inl one ↦ inr (inl (omega (arith, above.1), share_at k.below n (x + 6) 5 full.below above.3 (omega (arith, above.2))))
    | inr two ↦ inr (inr (
      omega (arith, above.0),
      share_at k.below2 n (x + 6) 5 full.below2 above.3 (omega (arith, above.2)),
    ))
  ]
]

-- ---- no other error counts

-- Sums by the same shares are equal where the errors with a share are.
pub weighted-agree : (i : ℕ) (shares : List ℕ) (f g : ℕ → ℤ) → ((j : ℕ) → 0 < slice_index shares j → f (i + j) ≡ g (i + j))
    → weighted_from i shares f ≡ weighted_from i shares g
weighted-agree i [] f g same = refl
weighted-agree i (s ∷ shares) f g same =
    ap (λ z. z +ℤ weighted_from (i + 1) shares f) (first s (same 0))
    ∙ ap (λ z. (pos s *ℤ g i) +ℤ z)
    (weighted-agree (i + 1) shares f g (λ j some. let next : i + suc j ≡ i + 1 + j = omega arith in
    sym (ap f next) ∙ same (suc j) some ∙ ap g next))
  where
    none : (z : ℤ) → pos 0 *ℤ z ≡ pos 0
    none z = omega (arith, ints)

    first : (s : ℕ) → (0 < s → f (i + 0) ≡ g (i + 0)) → pos s *ℤ f i ≡ pos s *ℤ g i
    first zero at = none (f i) ∙ sym (none (g i))
    first (suc s) at =
        let here : i + 0 ≡ i = omega arith in
        ap (λ z. pos (suc s) *ℤ z) (sym (ap f here) ∙ at (omega arith) ∙ ap g here)

pub other_errors : (k : Table) (p : Plane) (e f : Errors) (x y : ℕ) → IsNarrow k
    → ((m n : ℕ) → GivesTo k x y m n → e m n ≡ f m n) → value_at k p e y x ≡ value_at k p f y x
other_errors k p e f x y narrow same =
    taken_from k p e y x narrow.right narrow.below narrow.below2
    ∙ ap (λ z. sums z (weighted_from 0 k.below (λ i. e (y + 1) (x + 6 - i))) (weighted_from 0 k.below2 (λ i. e y (x + 6 - i))))
    (weighted-agree 0 k.right (λ i. e (y + 2) (x + 3 - i)) (λ i. f (y + 2) (x + 3 - i)) (λ j some.
    let within : j < length k.right = within_at k.right j some in
    same (y + 2) (x + 3 - (0 + j)) (inl (refl, record { share = j; some = some; place = omega (arith, narrow.right) }))))
    ∙ ap (λ z. sums (weighted_from 0 k.right (λ i. f (y + 2) (x + 3 - i))) z (weighted_from 0 k.below2 (λ i. e y (x + 6 - i))))
    (weighted-agree 0 k.below (λ i. e (y + 1) (x + 6 - i)) (λ i. f (y + 1) (x + 6 - i)) (λ j some.
    let within : j < length k.below = within_at k.below j some in
    same (y + 1) (x + 6 - (0 + j)) (inr (inl (refl, record { share = j; some = some; place = omega (arith, narrow.below) })))))
    ∙ ap (λ z. sums (weighted_from 0 k.right (λ i. f (y + 2) (x + 3 - i))) (weighted_from 0 k.below (λ i. f (y + 1) (x + 6 - i))) z)
    (weighted-agree 0 k.below2 (λ i. e y (x + 6 - i)) (λ i. f y (x + 6 - i)) (λ j some.
    let within : j < length k.below2 = within_at k.below2 j some in
    same y (x + 6 - (0 + j)) (inr (inr (refl, record { share = j; some = some; place = omega (arith, narrow.below2) })))))
    ∙ sym (taken_from k p f y x narrow.right narrow.below narrow.below2)
  where
    sums : ℤ → ℤ → ℤ → ℤ
    sums a b c = pos (16 * p.amount y x) +ℤ int_div_euclid (a +ℤ (b +ℤ c)) (pos (divisor k))
