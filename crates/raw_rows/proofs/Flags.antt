-- Flags of rows whose lines are white.
use Rattle.std.proofs.Common.{Bool, false, true, ℕ, ◌≡◌, ◌+◌, ◌-◌, ◌*◌, ◌<◌, ◌≤◌, ◌++◌, List, ap, arith, get_or, get_or-set_other, get_or-set_same, inl, inr, length, set, subst, sym, take, ◌∙◌}
use Rattle.std.proofs.lemmas.Bool.{cases_eq, cases_lt}
use Rattle.dot_planes.specs.Tables.{row_at}
use Rattle.pwg_definitions.specs.declared.pages.Kind.{Kind}
use Rattle.raw_rows.specs.Lines.{AreEarlier, AreInOrder, AreThere, AreWhiteLines, white_byte}
use Rattle.raw_rows.proofs.LinePuts.{kept_line, last_line}
use Rattle.raw_rows.proofs.Numbers.{IsPut}

-- ---- a row that gets the line of the row above

-- its number is that of the row above
repeated : (y q : ℕ) (index : List ℕ) → y < 256 → length index ≡ 256 → q ≡ y → get_or (set index y (get_or index (y - 1) 0)) q 0 ≡ get_or index (y - 1) 0
repeated y q index room many here =
    ap (λ n. get_or (set index y (get_or index (y - 1) 0)) n 0) here ∙ get_or-set_same index y (get_or index (y - 1) 0) 0 (omega arith)

-- and the others keep theirs
not_repeated : (y q : ℕ) (index : List ℕ) → (q ≡ y → ⊥) → get_or (set index y (get_or index (y - 1) 0)) q 0 ≡ get_or index q 0
not_repeated y q index other = get_or-set_other index y q (get_or index (y - 1) 0) 0 other

pub repeated_there : (len bytes y : ℕ) (index : List ℕ) → y < 256 → length index ≡ 256 → AreThere index len bytes
    → AreThere (set index y (get_or index (y - 1) 0)) len bytes
repeated_there len bytes y index room many there q = elim (cases_eq q y) [
  | inl here ↦ omega (arith, ap (λ n. n * len) (repeated y q index room many here), there (y - 1))
  | inr other ↦ omega (arith, ap (λ n. n * len) (not_repeated y q index other), there q)
]

pub repeated_earlier : (y : ℕ) (index : List ℕ) → y < 256 → length index ≡ 256 → AreEarlier index
    → AreEarlier (set index y (get_or index (y - 1) 0))
repeated_earlier y index room many earlier q = elim (cases_eq q y) [
  | inl here ↦ omega (arith, repeated y q index room many here, earlier (y - 1))
  | inr other ↦ omega (arith, not_repeated y q index other, earlier q)
]

pub repeated_in_order : (y : ℕ) (index : List ℕ) → y < 256 → length index ≡ 256 → AreInOrder index
    → AreInOrder (set index y (get_or index (y - 1) 0))
repeated_in_order y index room many in_order r q order low = elim (cases_eq r y) [
  | inl here ↦ elim (cases_eq q y) [
    | inl also ↦ omega (arith, repeated y r index room many here, repeated y q index room many also)
    | inr other ↦ omega (arith, repeated y r index room many here, not_repeated y q index other, in_order (y - 1) q (omega arith) low)
  ]
  | inr above ↦ elim (cases_eq q y) [
    | inl here ↦ omega (arith, not_repeated y r index above, repeated y q index room many here, in_order r (y - 1) (omega arith) (omega arith))
    | inr other ↦ omega (arith, not_repeated y r index above, not_repeated y q index other, in_order r q order low)
  ]
]

-- its flag is that of the row above
pub repeated_flags : (kind : Kind) (len y : ℕ) (bytes index : List ℕ) (white : List Bool) → 1 ≤ y → y < 256 → length index ≡ 256
    → length white ≡ 256 → AreWhiteLines kind len bytes index white
    → AreWhiteLines kind len bytes (set index y (get_or index (y - 1) 0)) (set white y (get_or white (y - 1) false))
repeated_flags kind len y bytes index white some room many flags are q low is k inside = elim (cases_eq q y) [
  | inl here ↦
      let number = repeated y q index room many here in
      let flag : get_or (set white y (get_or white (y - 1) false)) q false ≡ get_or white (y - 1) false =
      ap (λ n. get_or (set white y (get_or white (y - 1) false)) n false) here
      ∙ get_or-set_same white y (get_or white (y - 1) false) false (omega arith) in
      ap (λ n. get_or (row_at len bytes n) k 0) number ∙ are (y - 1) (omega arith) (sym flag ∙ is) k inside
  | inr other ↦
      ap (λ n. get_or (row_at len bytes n) k 0) (not_repeated y q index other)
      ∙ are q low (sym (get_or-set_other white y q _ false other) ∙ is) k inside
]

-- ---- rows that get a line

-- Rows from y on that get a line have its flag.
pub put_flags : (kind : Kind) (len y n : ℕ) (flag : Bool) (bytes new line index numbers : List ℕ) (white flags : List Bool)
    → IsPut index numbers y n → n * len ≤ length bytes → len ≤ length line → new ≡ take (n * len) bytes ++ take len line
    → ((r : ℕ) → r < y → get_or flags r false ≡ get_or white r false)
    → ((r : ℕ) → y ≤ r → r < 256 → get_or flags r false ≡ flag)
    → (flag ≡ true → (k : ℕ) → k < len → get_or line k 0 ≡ white_byte kind)
    → AreWhiteLines kind len bytes index white → AreWhiteLines kind len new numbers flags
put_flags kind len y n flag bytes new line index numbers white flags put room long is_new above others whole are q low is k inside =
    ap (λ bs. get_or (row_at len bs (get_or numbers q 0)) k 0) is_new ∙ elim (cases_lt q y) [
      | inl before ↦
          ap (λ m. get_or (row_at len (take (n * len) bytes ++ take len line) m) k 0) (put.above q before)
          ∙ kept_line len n (get_or index q 0) k bytes (take len line) room (put.behind q before) inside
          ∙ are q low (sym (above q before) ∙ is) k inside
      | inr from ↦
          ap (λ m. get_or (row_at len (take (n * len) bytes ++ take len line) m) k 0) (put.others q (omega arith) low)
          ∙ last_line len n k bytes line room inside
          ∙ whole (sym (others q (omega arith) low) ∙ is) k inside
    ]
