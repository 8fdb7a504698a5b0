-- Numbers that are all 0, found by the bits that any of them has.
use Rattle.std.proofs.Common.{ℕ, ℤ, pos, negsuc, List, length, get_or, of_z, w16, eqb, true, subst, to_z, ◌↔◌, ◌≡◌, ◌+◌, ◌-◌, ◌*◌, ◌<◌, ◌≤◌, ◌∙◌, arith, refl, sym, ap, inl, inr, bit_or}
use Rattle.std.proofs.lemmas.Bool.{cases_lt, eq-eqb, eqb-true}
use Rattle.std.proofs.lemmas.Nat.{le_or_l, le_or_r, or_of_16}
use Rattle.std.proofs.lemmas.Int.{ints, of_z-to_z}
use Rattle.std.proofs.lemmas.List.{get_or_past}
use Rattle.diffusion_definitions.specs.Diffusion.{EachInRange, InRange}
use Rattle.tile_lanes.specs.Blank.{AreBlankOffsets, AreZero}

-- `any` is 0 if the first n numbers are all 0, and only then.
pub record IsZeroTest (number : ℕ → ℕ) (n any : ℕ) : Type 0 where
  pub zero : any ≡ 0 → (i : ℕ) → i < n → number i ≡ 0
  pub all : ((i : ℕ) → i < n → number i ≡ 0) → any ≡ 0

-- one more number
pub zero_test_more : (number : ℕ → ℕ) (n any v : ℕ) → v ≡ number n → IsZeroTest number n any
    → IsZeroTest number (n + 1) (bit_or any v)
zero_test_more number n any v is_v test = record {
  zero = λ is i small.
      let left = le_or_l any v in
      let right = le_or_r any v in
      let before : any ≡ 0 = omega arith in
      let here : v ≡ 0 = omega arith in
      elim (cases_lt i n) [
        | inl earlier ↦ test.zero before i earlier
        | inr from ↦ let same : i ≡ n = omega arith in ap number same ∙ (sym is_v ∙ here)
      ];
  all = λ zeros.
      let before : any ≡ 0 = test.all (λ i small. zeros i (omega arith)) in
      let here : v ≡ 0 = is_v ∙ zeros n (omega arith) in
      ap (λ a. bit_or a v) before ∙ ap (bit_or 0) here;
}

-- the bits of an error, as a number below 65,536
abbrev pub bits_of : List ℤ → ℕ → ℕ
bits_of errors i = of_z w16 (get_or errors i (pos 0))

bits_fit : (z : ℤ) → InRange z → of_z w16 z < 65536
bits_fit (pos n) fits = let high = fits.high in omega (arith, ints, high)
bits_fit (negsuc n) fits = omega arith

-- They are 0 only if it is 0.
bits_zero : (z : ℤ) → InRange z → of_z w16 z ≡ 0 → z ≡ pos 0
bits_zero (pos n) fits is = ap pos is
bits_zero (negsuc n) fits is = let low = fits.low in absurd (omega (arith, ints, low))

-- one more error
pub error_test_more : (errors : List ℤ) (n any : ℕ) → EachInRange errors → any < 65536
    → IsZeroTest (bits_of errors) n (of_z w16 (to_z w16 any))
    → IsZeroTest (bits_of errors) (n + 1) (of_z w16 (to_z w16 (bit_or any (bits_of errors n))))
error_test_more errors n any fits few test =
    let v : ℕ = bits_of errors n in
    let small : v < 65536 = bits_fit (get_or errors n (pos 0)) (fits n) in
    let both : bit_or any v < 65536 = or_of_16 any v few small in
    subst (IsZeroTest (bits_of errors) (n + 1)) (sym (of_z-to_z w16 (bit_or any v) both))
    (zero_test_more (bits_of errors) n any v refl (subst (IsZeroTest (bits_of errors) n) (of_z-to_z w16 any few) test))

-- The test of all errors of a list tells whether they are all 0.
pub errors_tested : (errors : List ℤ) (n any : ℕ) → EachInRange errors → length errors ≤ n → any < 65536
    → IsZeroTest (bits_of errors) n (of_z w16 (to_z w16 any)) → (eqb any 0 ≡ true) ↔ AreZero errors
errors_tested errors n any fits whole few test =
    let tested : IsZeroTest (bits_of errors) n any = subst (IsZeroTest (bits_of errors) n) (of_z-to_z w16 any few) test in (
      λ is i. elim (cases_lt i n) [
        | inl inside ↦ bits_zero (get_or errors i (pos 0)) (fits i) (tested.zero (eqb-true any 0 is) i inside)
        | inr past ↦ get_or_past errors i (pos 0) (omega arith)
      ],
      λ zeros. eq-eqb any 0 (tested.all (λ i small. ap (of_z w16) (zeros i))),
    )

-- Four more offsets of a tile have no amount.
pub blank_more : (tile : List ℕ) (n : ℕ) → ((m : ℕ) → m < 128 * n → get_or tile m 0 ≡ 0) → AreBlankOffsets tile n
    → (m : ℕ) → m < 128 * (n + 1) → get_or tile m 0 ≡ 0
blank_more tile n before four m small = elim (cases_lt m (128 * n)) [
  | inl earlier ↦ before m earlier
  | inr from ↦
      let i : ℕ = m - 128 * n in
      let here : m ≡ 128 * n + i = omega arith in
      ap (λ q. get_or tile q 0) here ∙ four i (omega arith)
]
