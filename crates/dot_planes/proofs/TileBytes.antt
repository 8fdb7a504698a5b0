-- Which dots of a tile's row a byte of a packed row takes.
use Rattle.std.proofs.Common.{◌≡◌, ◌⊎◌, ℕ, ◌+◌, ◌-◌, ◌*◌, ◌/◌, ◌%◌, ◌<◌, ◌≤◌, List, get_or, min, ◌∙◌, ap, arith, inl, inr}
use Rattle.std.proofs.lemmas.Bool.{cases_lt}
use Rattle.base_definitions.specs.Packed.{bit_at}
use Rattle.dot_planes.specs.Tables.{row_dot}

-- Byte n of the nine that the eight bytes of a tile's row go to: it begins at offset 8 n + shift - 8 of the tile.
pub record IsByte (dots : List ℕ) (n shift left right from to : ℕ) : Type 0 where
  pub few : n ≤ 8
  pub low : shift < 8
  pub left_is : 0 < n → left ≡ get_or dots (n - 1) 0
  pub right_is : n < 8 → right ≡ get_or dots n 0
  pub from_is : 0 < n → from ≡ 0
  pub first_from : n ≡ 0 → from ≡ 8 - shift
  pub to_is : n < 8 → to ≡ 8
  pub last_to : n ≡ 8 → to ≡ 8 - shift

-- The byte's eight dots are those of these two from place `shift` on.
pub record IsMoved (left right shift new : ℕ) : Type 0 where
  pub at_left : (k : ℕ) → k + shift < 8 → bit_at new k ≡ bit_at left (k + shift)
  pub at_right : (k : ℕ) → k < 8 → 8 ≤ k + shift → bit_at new k ≡ bit_at right (k + shift - 8)

-- it takes the tile's dots from one place to before another
pub taken_dot : {dots : List ℕ} {n shift left right from to new : ℕ} (k offset : ℕ)
    → IsByte dots n shift left right from to → IsMoved left right shift new
    → k < 8 → offset < 64 → 8 * n + shift + k ≡ offset + 8 → bit_at new k ≡ row_dot dots offset
taken_dot {dots} {n} {shift} k offset b m low inside here = elim (cases_lt (k + shift) 8) [
  | inl before ↦
      let byte : n - 1 ≡ offset / 8 = omega (arith, b.low) in
      let bit : k + shift ≡ offset % 8 = omega (arith, b.low) in
      m.at_left k before ∙ ap (λ l. bit_at l (k + shift)) (b.left_is (omega (arith, b.low))
      ∙ ap (λ i. get_or dots i 0) byte) ∙ ap (bit_at (get_or dots (offset / 8) 0)) bit
  | inr after ↦
      let byte : n ≡ offset / 8 = omega (arith, b.low) in
      let bit : k + shift - 8 ≡ offset % 8 = omega (arith, b.low) in
      m.at_right k low after ∙ ap (λ r. bit_at r (k + shift - 8)) (b.right_is (omega (arith, b.low))
      ∙ ap (λ i. get_or dots i 0) byte) ∙ ap (bit_at (get_or dots (offset / 8) 0)) bit
]

pub taken_from : {dots : List ℕ} {n shift left right from to : ℕ} (k offset : ℕ) → IsByte dots n shift left right from to
    → 8 * n + shift + k ≡ offset + 8 → from ≤ k
taken_from {n} k offset b here = grind (arith, cases_lt)

pub taken_to : {dots : List ℕ} {n shift left right from to : ℕ} (k offset : ℕ) → IsByte dots n shift left right from to
    → k < 8 → offset < 64 → 8 * n + shift + k ≡ offset + 8 → k < to
taken_to {n} k offset b low inside here = grind (arith, cases_lt)

-- all others are unchanged
pub not_taken : {dots : List ℕ} {n shift left right from to : ℕ} (most k : ℕ) → IsByte dots n shift left right from to
    → k < 8 → ((offset : ℕ) → k < most → offset < 64 → ¬ (8 * n + shift + k ≡ offset + 8)) → (k < from) ⊎ (min to most ≤ k)
not_taken {n} {shift} {from} {to} most k b low none = elim (cases_lt k most) [
  | inr past ↦ inr (omega arith)
  | inl before ↦ elim (cases_lt (8 * n + shift + k) 8) [
    | inl first ↦ let from_here : from ≡ 8 - shift = b.first_from (omega arith) in inl (omega arith)
    | inr later ↦ elim (cases_lt (8 * n + shift + k) 72) [
      | inl inside ↦ absurd (none (8 * n + shift + k - 8) before (omega arith) (omega arith))
      | inr past ↦ let to_here : to ≡ 8 - shift = b.last_to (omega (arith, b.few, b.low)) in inr (omega arith)
    ]
  ]
]
