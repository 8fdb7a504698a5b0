-- Tables of dots, row by row and ink by ink, and of amounts, ink by ink and row by row, from the left. Inks are in the
-- order of a printer's set.
use Rattle.base_definitions.specs.Limits.{most_columns, most_rows}
use Rattle.std.specs.Prelude.{◌≡◌, ℕ, ◌+◌, ◌*◌, ◌/◌, ◌%◌, ◌<◌, ◌≤◌, ◌⊎◌, ◌≢◌, Bool, true, if◌then◌else◌, nat_lt}
use Rattle.std.specs.Prelude.{List, [], length, take, drop, slice_index}
use Rattle.base_definitions.specs.Packed.{bit_at}
use Rattle.base_definitions.specs.Packed.{at, packed}

-- ---- dots

-- Dots of inks, eight a byte, the first in its highest bit. Each row begins with a byte of its own. Row 0 of each ink
-- comes first, then row 1 of each.
pub record DotTable : Type 0 where
  pub width : ℕ
  pub rows : ℕ
  pub inks : ℕ
  pub bytes : List ℕ

-- how many bytes a row has
abbrev pub row_len : ℕ → ℕ
row_len width = (width + 7) / 8

-- the bytes of row n, where each row has `len` bytes
abbrev pub row_at : ℕ → List ℕ → ℕ → List ℕ
row_at len bytes n = take len (drop (n * len) bytes)

-- row y of an ink, packed; past the last ink there is none
abbrev pub packed_row : DotTable → ℕ → ℕ → List ℕ
packed_row t ink y = if nat_lt ink t.inks then row_at (row_len t.width) t.bytes (y * t.inks + ink) else []

-- the dot at a place of a packed row; past its end there is none
abbrev pub row_dot : List ℕ → ℕ → Bool
row_dot row x = bit_at (slice_index row (x / 8)) (x % 8)

-- the dot of an ink in row y at column x
unfoldable pub dot : DotTable → ℕ → ℕ → ℕ → Bool
dot t ink y x = row_dot (packed_row t ink y) x

-- both tables have the same size
pub record HasSizeOf (old new : DotTable) : Type 0 where
  pub width : new.width ≡ old.width
  pub rows : new.rows ≡ old.rows
  pub inks : new.inks ≡ old.inks

-- a packed row of `width` dots
pub record IsPackedRow (width : ℕ) (row : List ℕ) : Type 0 where
  pub dots : List Bool
  pub width_is : length dots ≡ width
  pub is : row ≡ packed dots

-- The dot of an ink in row y at column x is on, and all others are unchanged.
pub record TurnsOn (old new : DotTable) (i y x : ℕ) : Type 0 where
  pub size : HasSizeOf old new
  pub on : dot new i y x ≡ true
  pub others : (j r c : ℕ) → (j ≢ i) ⊎ ((r ≢ y) ⊎ (c ≢ x)) → r < old.rows → dot new j r c ≡ dot old j r c

-- Row y of an ink has the dots of a packed row, and all other rows are unchanged.
pub record PutsRow (old new : DotTable) (i y : ℕ) (bytes : List ℕ) : Type 0 where
  pub size : HasSizeOf old new
  pub row : (dots : List Bool) → length dots ≡ old.width → bytes ≡ packed dots → (x : ℕ) → dot new i y x ≡ at dots x
  pub others : (j r : ℕ) → (j ≢ i) ⊎ (r ≢ y) → r < old.rows → (x : ℕ) → dot new j r x ≡ dot old j r x

-- ---- amounts

-- Amounts of inks, a byte each.
pub record AmountTable : Type 0 where
  pub width : ℕ
  pub rows : ℕ
  pub inks : ℕ
  pub bytes : List ℕ

-- row y of an ink
abbrev pub amount_row : AmountTable → ℕ → ℕ → List ℕ
amount_row t ink y = row_at t.width t.bytes (ink * t.rows + y)

-- the amount of an ink in row y at column x
unfoldable pub amount : AmountTable → ℕ → ℕ → ℕ → ℕ
amount t ink y x = slice_index (amount_row t ink y) x

-- both tables have the same size
pub record HasSizeAs (old new : AmountTable) : Type 0 where
  pub width : new.width ≡ old.width
  pub rows : new.rows ≡ old.rows
  pub inks : new.inks ≡ old.inks

-- Amounts of an ink in row y are set from column x on, and all others are unchanged.
pub record Sets (old new : AmountTable) (i y x : ℕ) (amounts : List ℕ) : Type 0 where
  pub size : HasSizeAs old new
  pub part : (k : ℕ) → k < length amounts → amount new i y (x + k) ≡ slice_index amounts k
  pub beside : (c : ℕ) → (c < x) ⊎ (x + length amounts ≤ c) → amount new i y c ≡ amount old i y c
  pub others : (j r : ℕ) → (j ≢ i) ⊎ (r ≢ y) → r < old.rows → (c : ℕ) → amount new j r c ≡ amount old j r c

-- In all inks, row y takes the amounts of row `from`, and all other rows are unchanged.
pub record CopiesRow (old new : AmountTable) (from y : ℕ) : Type 0 where
  pub size : HasSizeAs old new
  pub row : (i x : ℕ) → i < old.inks → amount new i y x ≡ amount old i from x
  pub others : (i r x : ℕ) → r ≢ y → r < old.rows → amount new i r x ≡ amount old i r x

-- The same for one ink.
pub record CopiesInkRow (old new : AmountTable) (i from y : ℕ) : Type 0 where
  pub size : HasSizeAs old new
  pub row : (x : ℕ) → amount new i y x ≡ amount old i from x
  pub others : (j r : ℕ) → (j ≢ i) ⊎ (r ≢ y) → r < old.rows → (x : ℕ) → amount new j r x ≡ amount old j r x

-- ---- sizes

-- The sizes that `make` takes: at most as many columns and rows as a page, and four inks.
pub record IsSize (width rows inks : ℕ) : Type 0 where
  pub some_columns : 1 ≤ width
  pub most_columns : width ≤ most_columns
  pub some_rows : 1 ≤ rows
  pub most_rows : rows ≤ most_rows
  pub some_inks : 1 ≤ inks
  pub most_inks : inks ≤ 4
