-- Dots of packed planes are written.
use Rattle.std.proofs.Common.{◌≡◌, ◌≢◌, ◌⊎◌, ℕ, ◌+◌, ◌-◌, ◌*◌, ◌/◌, ◌%◌, ◌^◌, ◌==◌, ◌<◌, ◌≤◌, true, false, List, length, get_or, set, sym}
use Rattle.std.proofs.Common.{[], cond, ◌∙◌, ap, arith, inl, inr, refl, subst, bit_or, get_or-set_other, get_or-set_same}
use Rattle.std.proofs.lemmas.Bool.{cases_eq, cases_lt, le-ltb, lt-ltb}
use Rattle.std.proofs.lemmas.List.{get_or_past}
use Rattle.std.proofs.lemmas.Nat.Bits.{bit_at_set_other, bit_at_set_same}
use Rattle.std.specs.Int.{w8}
use borrow.Rule.Slice.PartMut.{put_mid}
use Rattle.base_definitions.specs.Packed.{bit_at}
use Rattle.dot_planes.specs.Tables.{DotTable, IsPackedRow, PutsRow, TurnsOn, dot, row_at, row_dot, row_len}
use Rattle.dot_planes.proofs.PackedRows.{dot_of_packed, no_bit, packed-len}
use Rattle.dot_planes.proofs.RowBytes.{apart, bytes_inside, no_byte, row_byte, row_inside_across, row_kept, rows_differ_across}
use Rattle.dot_planes.proofs.Writes.{put_inside, put_outside}

-- the same table with other bytes
abbrev pub with_bytes : DotTable → List ℕ → DotTable
with_bytes t bytes = record { width = t.width; rows = t.rows; inks = t.inks; bytes = bytes }

-- no row of bytes has a dot past the width
abbrev pub IsSpare : DotTable → List ℕ → Type 0
IsSpare t bytes = (n x : ℕ) → n < t.inks * t.rows → t.width ≤ x → row_dot (row_at (row_len t.width) bytes n) x ≡ false

-- the dots of an ink that the planes have, and of one that they do not have
pub dot-in : (t : DotTable) (i y x : ℕ) → i < t.inks → dot t i y x ≡ row_dot (row_at (row_len t.width) t.bytes (y * t.inks + i)) x
unfolding dot
dot-in t i y x low = ap (λ b. row_dot (cond b (row_at (row_len t.width) t.bytes (y * t.inks + i)) []) x) (lt-ltb i t.inks low)

pub dot-out : (t : DotTable) (i y x : ℕ) → t.inks ≤ i → dot t i y x ≡ false
unfolding dot
dot-out t i y x high =
    ap (λ b. row_dot (cond b (row_at (row_len t.width) t.bytes (y * t.inks + i)) []) x) (le-ltb i t.inks high) ∙ no_bit (x % 8)

-- rows with the same bytes have the same dots
same_dots : (row row' : List ℕ) → ((k : ℕ) → get_or row k 0 ≡ get_or row' k 0) → (x : ℕ) → row_dot row x ≡ row_dot row' x
same_dots row row' same x = ap (λ b. bit_at b (x % 8)) (same (x / 8))

pub packed_row-len : (width : ℕ) (row : List ℕ) → IsPackedRow width row → length row ≡ row_len width
packed_row-len width row p = ap length p.is ∙ packed-len ((length p.dots + 7) / 8) p.dots ∙ ap row_len p.width_is

-- ---- a row

-- The bytes are those of planes with a row written anew, k bytes from place a on.
pub record IsRowPut (t : DotTable) (i y a k : ℕ) (row new : List ℕ) : Type 0 where
  pub is : new ≡ put_mid a k t.bytes row
  pub len : length t.bytes ≡ t.inks * t.rows * row_len t.width
  pub ink : i < t.inks
  pub down : y < t.rows
  pub packed_row : IsPackedRow t.width row
  pub first : a ≡ (y * t.inks + i) * row_len t.width
  pub many : k ≡ row_len t.width

room : (t : DotTable) (i y a k : ℕ) (row new : List ℕ) → IsRowPut t i y a k row new → a + k ≤ length t.bytes
room t i y a k row new p = omega (
  arith,
  bytes_inside (row_len t.width) (t.inks * t.rows) (y * t.inks + i) (row_inside_across t.inks t.rows i y p.ink p.down),
)

row_is : (t : DotTable) (i y a k : ℕ) (row new : List ℕ) → IsRowPut t i y a k row new
    → (j : ℕ) → get_or (row_at (row_len t.width) new (y * t.inks + i)) j 0 ≡ get_or row j 0
row_is t i y a k row new p j =
    let len : ℕ = row_len t.width in
    let n : ℕ = y * t.inks + i in
    let row_length : length row ≡ len = packed_row-len t.width row p.packed_row in
    let room_is : a + k ≤ length t.bytes = room t i y a k row new p in
    elim (cases_lt j len) [
      | inl inside ↦
          row_byte len n j new inside
          ∙ ap (λ (bytes : List ℕ). get_or bytes (n * len + j) 0) p.is
          ∙ ap (λ m. get_or (put_mid a k t.bytes row) (m + j) 0) (sym p.first)
          ∙ put_inside a k j t.bytes row (omega arith) (omega arith)
      | inr past ↦ no_byte len n j new past ∙ sym (get_or_past row j 0 (omega arith))
    ]

rows_kept : (t : DotTable) (i y a k : ℕ) (row new : List ℕ) → IsRowPut t i y a k row new
    → (m : ℕ) → m ≢ y * t.inks + i → (x : ℕ) → row_dot (row_at (row_len t.width) new m) x ≡ row_dot (row_at (row_len t.width) t.bytes m) x
rows_kept t i y a k row new p m other =
    let len : ℕ = row_len t.width in
    let n : ℕ = y * t.inks + i in
    let row_length : length row ≡ k = packed_row-len t.width row p.packed_row ∙ sym p.many in
    let room_is : a + k ≤ length t.bytes = room t i y a k row new p in
    let outside : (b : ℕ) → (b < n * len) ⊎ (n * len + len ≤ b) → get_or new b 0 ≡ get_or t.bytes b 0 = λ b where_is.
    ap (λ (bytes : List ℕ). get_or bytes b 0) p.is
    ∙ put_outside a k (n * len) (n * len + len) t.bytes row (omega arith) row_length (omega arith) (omega arith) b where_is in
    same_dots _ _ (row_kept len n m t.bytes new outside other)

pub puts_row : (t old : DotTable) (i y a k : ℕ) (row new : List ℕ)
    → t ≡ old → IsRowPut t i y a k row new → PutsRow old (with_bytes t new) i y row
puts_row t old i y a k row new same p =
    let Q : DotTable → Type 0 = λ o. PutsRow o (with_bytes t new) i y row in
    subst Q same (record {
      size = record { width = refl; rows = refl; inks = refl };
      row = λ dots wide is x.
          dot-in (with_bytes t new) i y x p.ink ∙ same_dots _ row (row_is t i y a k row new p) x ∙ dot_of_packed dots row x is;
      others = λ j r other low x. elim (cases_lt j t.inks) [
        | inl inside ↦
            dot-in (with_bytes t new) j r x inside
            ∙ rows_kept t i y a k row new p (r * t.inks + j) (rows_differ_across t.inks i y j r p.ink inside other) x
            ∙ sym (dot-in t j r x inside)
        | inr past ↦ dot-out (with_bytes t new) j r x past ∙ sym (dot-out t j r x past)
      ];
    })

pub row_put-spare : (t : DotTable) (i y a k : ℕ) (row new : List ℕ) → IsSpare t t.bytes → IsRowPut t i y a k row new → IsSpare t new
row_put-spare t i y a k row new spare p m x below past = elim (cases_eq m (y * t.inks + i)) [
  | inl here ↦
      ap (λ n. row_dot (row_at (row_len t.width) new n) x) here
      ∙ same_dots _ row (row_is t i y a k row new p) x
      ∙ dot_of_packed p.packed_row.dots row x p.packed_row.is
      ∙ get_or_past p.packed_row.dots x false (omega (arith, p.packed_row.width_is))
  | inr other ↦ rows_kept t i y a k row new p m other x ∙ spare m x below past
]

-- ---- a dot

-- The bytes are those of planes with a dot turned on, in the byte at a place.
pub record IsDotPut (t : DotTable) (i y x place : ℕ) (new : List ℕ) : Type 0 where
  pub is : new ≡ set t.bytes place (bit_or (get_or t.bytes place 0) (1 * 2 ^ (7 - x % 8) % 2 ^ 8))
  pub len : length t.bytes ≡ t.inks * t.rows * row_len t.width
  pub ink : i < t.inks
  pub down : y < t.rows
  pub across : x < t.width
  pub place_is : place ≡ (y * t.inks + i) * row_len t.width + x / 8

-- a byte after a dot of it was turned on
set_same : (b k : ℕ) → k < 8 → bit_at (bit_or b (1 * 2 ^ (7 - k) % 2 ^ 8)) k ≡ true
set_same b k low = ap (λ n. n == 1) (bit_at_set_same w8 b (7 - k) (omega arith))

set_other : (b k j : ℕ) → k < 8 → j < 8 → j ≢ k → bit_at (bit_or b (1 * 2 ^ (7 - k) % 2 ^ 8)) j ≡ bit_at b j
set_other b k j low low' other = ap (λ n. n == 1) (bit_at_set_other w8 b (7 - k) (omega arith) (7 - j) (omega arith))

inside_row : (t : DotTable) (i y x place : ℕ) (new : List ℕ) → IsDotPut t i y x place new → x / 8 < row_len t.width
inside_row t i y x place new p = omega (arith, p.across)

on_is : (t : DotTable) (i y x place : ℕ) (new : List ℕ) → IsDotPut t i y x place new
    → row_dot (row_at (row_len t.width) new (y * t.inks + i)) x ≡ true
on_is t i y x place new p = grind (arith, bytes_inside, get_or-set_same, inside_row, row_byte, row_inside_across, set_same)

dots_kept : (t : DotTable) (i y x place : ℕ) (new : List ℕ) → IsDotPut t i y x place new
    → (m c : ℕ) → (m ≢ y * t.inks + i) ⊎ (c ≢ x)
    → row_dot (row_at (row_len t.width) new m) c ≡ row_dot (row_at (row_len t.width) t.bytes m) c
dots_kept t i y x place new p m c other =
    let len : ℕ = row_len t.width in
    let n : ℕ = y * t.inks + i in
    let put : ℕ = bit_or (get_or t.bytes place 0) (1 * 2 ^ (7 - x % 8) % 2 ^ 8) in
    let room_is : place < length t.bytes = omega (
      arith,
      p.len,
      p.place_is,
      inside_row t i y x place new p,
      bytes_inside len (t.inks * t.rows) n (row_inside_across t.inks t.rows i y p.ink p.down),
    ) in
    elim (cases_lt (c / 8) len) [
      | inl inside ↦ elim (cases_eq (m * len + c / 8) place) [
        | inl here ↦
            let row_is : m ≡ n = elim (cases_eq m n) [
              | inl same ↦ same
              | inr differs ↦ elim (apart len n m (c / 8) differs inside) [
                | inl above ↦ absurd (omega (arith, here, p.place_is, inside_row t i y x place new p))
                | inr below ↦ absurd (omega (arith, here, p.place_is, inside_row t i y x place new p))
              ]
            ] in
            let byte_is : c / 8 ≡ x / 8 = omega (arith, here, p.place_is, ap (λ k. k * len) row_is) in
            let column_differs : c ≢ x = elim other [
              | inl row_differs ↦ absurd (row_differs row_is)
              | inr differs ↦ differs
            ] in
            let bit_differs : c % 8 ≢ x % 8 = omega arith in
            let low : c % 8 < 8 = omega arith in
            let low' : x % 8 < 8 = omega arith in
            ap (λ b. bit_at b (c % 8)) (row_byte len m (c / 8) new inside
            ∙ ap (λ (bytes : List ℕ). get_or bytes (m * len + c / 8) 0) p.is
            ∙ ap (λ k. get_or (set t.bytes place put) k 0) here ∙ get_or-set_same t.bytes place put 0 room_is)
            ∙ set_other (get_or t.bytes place 0) (x % 8) (c % 8) low' low bit_differs
            ∙ ap (λ b. bit_at b (c % 8)) (ap (λ k. get_or t.bytes k 0) (sym here) ∙ sym (row_byte len m (c / 8) t.bytes inside))
        | inr there ↦ ap (λ b. bit_at b (c % 8)) (row_byte len m (c / 8) new inside
            ∙ ap (λ (bytes : List ℕ). get_or bytes (m * len + c / 8) 0) p.is
            ∙ get_or-set_other t.bytes place (m * len + c / 8) put 0 there
            ∙ sym (row_byte len m (c / 8) t.bytes inside))
      ]
      | inr past ↦ ap (λ b. bit_at b (c % 8)) (no_byte len m (c / 8) new past ∙ sym (no_byte len m (c / 8) t.bytes past))
    ]

pub turns_on : (t old : DotTable) (i y x place : ℕ) (new : List ℕ)
    → t ≡ old → IsDotPut t i y x place new → TurnsOn old (with_bytes t new) i y x
turns_on t old i y x place new same p =
    let Q : DotTable → Type 0 = λ o. TurnsOn o (with_bytes t new) i y x in
    subst Q same (record {
      size = record { width = refl; rows = refl; inks = refl };
      on = dot-in (with_bytes t new) i y x p.ink ∙ on_is t i y x place new p;
      others = λ j r c other low. elim (cases_lt j t.inks) [
        | inl inside ↦
            dot-in (with_bytes t new) j r c inside
            ∙ dots_kept t i y x place new p (r * t.inks + j) c (elim other [
              | inl ink_differs ↦ inl (rows_differ_across t.inks i y j r p.ink inside (inl ink_differs))
              | inr rest ↦ elim rest [
                | inl row_differs ↦ inl (rows_differ_across t.inks i y j r p.ink inside (inr row_differs))
                | inr column_differs ↦ inr column_differs
              ]
            ])
            ∙ sym (dot-in t j r c inside)
        | inr past ↦ dot-out (with_bytes t new) j r c past ∙ sym (dot-out t j r c past)
      ];
    })

pub dot_put-spare : (t : DotTable) (i y x place : ℕ) (new : List ℕ) → IsSpare t t.bytes → IsDotPut t i y x place new → IsSpare t new
dot_put-spare t i y x place new spare p m c below past = grind (arith, dots_kept)
