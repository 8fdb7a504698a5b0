-- Amounts of a row are written.
use Rattle.std.proofs.Common.{◌≡◌, ◌≢◌, ◌⊎◌, ℕ, ◌+◌, ◌*◌, ◌<◌, ◌≤◌, List, length, get_or, sym, ◌∙◌, arith, inl, inr, refl, subst}
use Rattle.std.proofs.lemmas.Bool.{cases_eq, cases_lt}
use borrow.Rule.Slice.PartMut.{put_mid}
use Rattle.dot_planes.specs.Tables.{AmountTable, CopiesInkRow, HasSizeAs, Sets, amount}
use Rattle.dot_planes.proofs.RowBytes.{bytes_inside, no_byte, row_byte, row_inside, row_kept, rows_differ}
use Rattle.dot_planes.proofs.Writes.{put_inside, put_outside}

-- the same table with other bytes
abbrev pub with_bytes : AmountTable → List ℕ → AmountTable
with_bytes t bytes = record { width = t.width; rows = t.rows; inks = t.inks; bytes = bytes }

-- The bytes are those of a table with a part of a row written anew, k bytes from place a on.
pub record IsPut (t : AmountTable) (i y x a k : ℕ) (part new : List ℕ) : Type 0 where
  pub is : new ≡ put_mid a k t.bytes part
  pub len : length t.bytes ≡ t.inks * t.rows * t.width
  pub ink : i < t.inks
  pub row : y < t.rows
  pub inside : x + length part ≤ t.width
  pub first : a ≡ (i * t.rows + y) * t.width + x
  pub many : k ≡ length part

room : (t : AmountTable) (i y x a k : ℕ) (part new : List ℕ) → IsPut t i y x a k part new → a ≤ length t.bytes
room t i y x a k part new p =
    omega (arith, bytes_inside t.width (t.inks * t.rows) (i * t.rows + y) (row_inside t.inks t.rows i y p.ink p.row))

-- bytes outside of the part are unchanged
outside : (t : AmountTable) (i y x a k : ℕ) (part new : List ℕ) → IsPut t i y x a k part new → (from end : ℕ) → from ≤ a → a + k ≤ end
    → (n : ℕ) → (n < from) ⊎ (end ≤ n) → get_or new n 0 ≡ get_or t.bytes n 0
outside t i y x a k part new p from end low high n where_is = grind (arith, put_outside, room)

part_is : (t : AmountTable) (i y x a k : ℕ) (part new : List ℕ) → IsPut t i y x a k part new
    → (j : ℕ) → j < length part → amount (with_bytes t new) i y (x + j) ≡ get_or part j 0
unfolding amount
part_is t i y x a k part new p j below = grind (arith, put_inside, room, row_byte)

beside_kept : (t : AmountTable) (i y x a k : ℕ) (part new : List ℕ) → IsPut t i y x a k part new
    → (c : ℕ) → (c < x) ⊎ (x + length part ≤ c) → amount (with_bytes t new) i y c ≡ amount t i y c
unfolding amount
beside_kept t i y x a k part new p c beside =
    let n : ℕ = i * t.rows + y in
    let there : (c < x) ⊎ (x + length part ≤ c) → (n * t.width + c < a) ⊎ (a + k ≤ n * t.width + c) = λ where_is. elim where_is [
      | inl left ↦ inl (omega arith)
      | inr right ↦ inr (omega arith)
    ] in
    elim (cases_lt c t.width) [
      | inl inside ↦
          row_byte t.width n c new inside
          ∙ outside t i y x a k part new p a (a + k) (omega arith) (omega arith) (n * t.width + c) (there beside)
          ∙ sym (row_byte t.width n c t.bytes inside)
      | inr past ↦ no_byte t.width n c new past ∙ sym (no_byte t.width n c t.bytes past)
    ]

others_kept : (t : AmountTable) (i y x a k : ℕ) (part new : List ℕ) → IsPut t i y x a k part new
    → (j r : ℕ) → (j ≢ i) ⊎ (r ≢ y) → r < t.rows → (c : ℕ) → amount (with_bytes t new) j r c ≡ amount t j r c
unfolding amount
others_kept t i y x a k part new p j r other low c =
    let n : ℕ = i * t.rows + y in
    row_kept t.width n (j * t.rows + r) t.bytes new
    (outside t i y x a k part new p (n * t.width) (n * t.width + t.width) (omega arith) (omega arith))
    (rows_differ t.rows i y j r p.row low other) c

-- all of it, for a table by another name
pub sets : (t old : AmountTable) (i y x a k : ℕ) (part new : List ℕ)
    → t ≡ old → IsPut t i y x a k part new → Sets old (with_bytes t new) i y x part
sets t old i y x a k part new same p =
    let Q : AmountTable → Type 0 = λ o. Sets o (with_bytes t new) i y x part in
    subst Q same (record {
      size = record { width = refl; rows = refl; inks = refl };
      part = part_is t i y x a k part new p;
      beside = beside_kept t i y x a k part new p;
      others = others_kept t i y x a k part new p;
    })

-- The bytes are those of a table in which a row of an ink is a copy of another.
pub record IsCopied (t : AmountTable) (i from y : ℕ) (new : List ℕ) : Type 0 where
  pub row : y < t.rows
  pub copy : (x : ℕ) → x < t.width → get_or new ((i * t.rows + y) * t.width + x) 0 ≡ get_or t.bytes ((i * t.rows + from) * t.width + x) 0
  pub rest : (n : ℕ) → (n < (i * t.rows + y) * t.width) ⊎ ((i * t.rows + y) * t.width + t.width ≤ n) → get_or new n 0 ≡ get_or t.bytes n 0

copy_is : (t : AmountTable) (i from y : ℕ) (new : List ℕ) → IsCopied t i from y new
    → (x : ℕ) → amount (with_bytes t new) i y x ≡ amount t i from x
unfolding amount
copy_is t i from y new p x = grind (arith, cases_lt, no_byte, row_byte)

rest_kept : (t : AmountTable) (i from y : ℕ) (new : List ℕ) → IsCopied t i from y new
    → (j r : ℕ) → (j ≢ i) ⊎ (r ≢ y) → r < t.rows → (x : ℕ) → amount (with_bytes t new) j r x ≡ amount t j r x
unfolding amount
rest_kept t i from y new p j r other low x =
    row_kept t.width (i * t.rows + y) (j * t.rows + r) t.bytes new p.rest (rows_differ t.rows i y j r p.row low other) x

pub copies : (t old : AmountTable) (i from y : ℕ) (new : List ℕ)
    → t ≡ old → IsCopied t i from y new → CopiesInkRow old (with_bytes t new) i from y
copies t old i from y new same p =
    let Q : AmountTable → Type 0 = λ o. CopiesInkRow o (with_bytes t new) i from y in
    subst Q same (record {
      size = record { width = refl; rows = refl; inks = refl };
      row = copy_is t i from y new p;
      others = rest_kept t i from y new p;
    })

-- The first inks have the copy, and the others are unchanged.
pub record HasCopies (old new : AmountTable) (inks from y : ℕ) : Type 0 where
  pub size : HasSizeAs old new
  pub row : (i x : ℕ) → i < inks → amount new i y x ≡ amount old i from x
  pub later : (i r x : ℕ) → inks ≤ i → r < old.rows → amount new i r x ≡ amount old i r x
  pub others : (i r x : ℕ) → r ≢ y → r < old.rows → amount new i r x ≡ amount old i r x

-- one ink more
pub copies_more : (old now new : AmountTable) (ink from y : ℕ) → from < old.rows → y < old.rows
    → HasCopies old now ink from y → CopiesInkRow now new ink from y → HasCopies old new (ink + 1) from y
copies_more old now new ink from y low low' p one = grind (arith, cases_eq)
