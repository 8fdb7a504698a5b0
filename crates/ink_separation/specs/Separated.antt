-- The amounts of a line.
use Rattle.std.specs.Prelude.{◌≡◌, ◌≢◌, ℕ, ◌+◌, ◌<◌, List, [], Some, slice_get, slice_index, slice_index_or}
use Rattle.dot_planes.specs.Tables.{AmountTable, HasSizeAs, amount}
use Rattle.printer_definitions.specs.Inks.{inks_of}
use Rattle.printer_definitions.specs.Printer.{Printer}
use Rattle.printer_definitions.specs.declared.inks.Ink.{Ink}
use Rattle.pwg_definitions.specs.declared.pages.Kind.{Kind}
use Rattle.separation_definitions.specs.Amounts.{amount as amount_of, pixel_at}
use Rattle.separation_definitions.specs.declared.window.Window.{Window}

-- Row y has the amounts of a line's pixels inside the window, ink by ink.
pub record HasLine (p : Printer) (kind : Kind) (line : List ℕ) (w : Window) (y : ℕ) (t : AmountTable) : Type 0 where
  pub are : (i : ℕ) (ink : Ink) → slice_get (inks_of p.inks) i ≡ Some ink → (x : ℕ) → x < w.width
      → amount t i y x ≡ amount_of p kind (pixel_at kind line (w.left + x)) ink

-- Row `at` has the amounts of a line, and other rows are unchanged.
pub record Separates (p : Printer) (kind : Kind) (line : List ℕ) (w : Window) (at : ℕ) (old new : AmountTable) : Type 0 where
  pub size : HasSizeAs old new
  pub row : HasLine p kind line w at new
  pub others : (i y x : ℕ) → y ≢ at → y < old.rows → amount new i y x ≡ amount old i y x

-- the amount of ink i at an index of a tile
abbrev pub tile_amount : List (List ℕ) → ℕ → ℕ → ℕ
tile_amount inks i n = slice_index (slice_index_or inks i []) n
