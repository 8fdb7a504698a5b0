-- The size of a window and of its sheet.
use Rattle.base_definitions.specs.Limits.{most_columns, most_rows}
use Rattle.std.specs.Prelude.{ℕ, ◌+◌, ◌*◌, ◌≤◌}
use Rattle.printer_definitions.specs.Printer.{Printer, row_units}
use Rattle.page_definitions.specs.Dots.{Halftone}

-- The window of a halftone has at least one dot's place and at most as many columns as a page, and ends on a sheet of
-- `tall` rows, which is no longer than a page.
pub record Sized (p : Printer) (h : Halftone) (tall : ℕ) : Type 0 where
  pub some_width : 1 ≤ h.width
  pub most_width : h.width ≤ most_columns
  pub some_height : 1 ≤ h.height
  pub low : p.top + h.height ≤ tall
  pub short : tall * row_units p ≤ most_rows
