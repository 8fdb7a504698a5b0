-- What rows of raw lines stand for.
use Rattle.std.specs.Prelude.{ℕ, ◌≡◌, ◌+◌, ◌*◌, ◌/◌, ◌%◌, ◌<◌, List, length, map, slice_index, slice_index_or}
use Rattle.base_definitions.specs.Counting.{count_from}
use Rattle.dot_planes.specs.Tables.{AmountTable, amount, row_at}
use Rattle.ink_separation.specs.Separators.{printer_in}
use Rattle.printer_definitions.specs.Inks.{inks_of}
use Rattle.printer_definitions.specs.declared.inks.Ink.{Ink}
use Rattle.printer_definitions.specs.declared.inks.Ink.TheVariants.{Black}
use Rattle.printer_definitions.specs.declared.inks.InkSet.{InkSet}
use Rattle.separation_definitions.specs.Amounts.{amount as amount_of, pixel_at}
use Rattle.raw_rows.specs.declared.kept.RawRows.{RawRows}

-- the line of row y
abbrev pub line_in : RawRows → ℕ → List ℕ
line_in raw y = row_at raw.len raw.bytes.items (slice_index raw.index y)

-- ink i of a set
abbrev pub ink_at : InkSet → ℕ → Ink
ink_at set i = slice_index_or (inks_of set) i Black

-- the amount of ink i in row y at column x: the separator's formula of the pixel of the row's line
abbrev pub amount_in : RawRows → ℕ → ℕ → ℕ → ℕ
amount_in raw i y x =
    let s = raw.separator in
    amount_of (printer_in s) s.kind (pixel_at s.kind (line_in raw y) (s.window.left + x)) (ink_at s.inks i)

-- the amounts that a function gives by ink, row and column: ink by ink, row by row and from the left, as many of each
unfoldable pub cells : (ℕ → ℕ → ℕ → ℕ) → ℕ → ℕ → ℕ → List ℕ
cells amount inks rows width =
    map (λ n. amount (n / width / rows) (n / width % rows) (n % width)) (count_from 0 (inks * rows * width))

-- All amounts of rows. The name does not unfold by itself, so that proofs find the rows by it.
unfoldable pub amounts_in : RawRows → List ℕ
amounts_in raw = cells (amount_in raw) (length (inks_of raw.separator.inks)) raw.rows raw.separator.window.width

-- the amounts as a table
abbrev pub table_of : RawRows → AmountTable
table_of raw = record {
  width = raw.separator.window.width;
  rows = raw.rows;
  inks = length (inks_of raw.separator.inks);
  bytes = amounts_in raw;
}

-- The rows above row y have the same amounts in both.
pub record KeepsAbove (old new : AmountTable) (y : ℕ) : Type 0 where
  pub same : (i r x : ℕ) → i < old.inks → r < y → r < old.rows → x < old.width → amount new i r x ≡ amount old i r x

-- Row y has the amounts of the row above it, and the rows above are unchanged.
pub record Repeats (old new : AmountTable) (y : ℕ) : Type 0 where
  pub row : (i r x : ℕ) → i < old.inks → r + 1 ≡ y → x < old.width → amount new i y x ≡ amount old i r x
  pub above : KeepsAbove old new y
