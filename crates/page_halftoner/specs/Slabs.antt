-- The rows of a page that are held until they are diffused.
use Rattle.std.specs.Prelude.{◌≡◌, ℕ, ℤ, pos, ◌%◌, ◌<◌, ◌≤◌, List, min}
use Rattle.dot_planes.specs.Tables.{AmountTable, HasSizeAs}
use Rattle.ink_separation.specs.Separated.{HasLine}
use Rattle.printer_definitions.specs.Printer.{Printer}
use Rattle.pwg_definitions.specs.declared.pages.Kind.{Kind}
use Rattle.raw_rows.specs.Raw.{KeepsAbove}
use Rattle.separation_definitions.specs.declared.window.Window.{Window}
use Rattle.tile_border.specs.Tops.{IsTopOf, edges_of}
use Rattle.tile_edges.specs.Tops.{top_of}

-- room for the first rows of a window: whole bands, at most 256 rows, or all where there are fewer
pub record IsFirstSlab (width height inks : ℕ) (slab : AmountTable) : Type 0 where
  pub width_is : slab.width ≡ width
  pub some : 1 ≤ slab.rows
  pub most : slab.rows ≤ 256
  pub inside : slab.rows ≤ height
  pub bands : slab.rows < height → slab.rows % 32 ≡ 0
  pub inks_are : slab.inks ≡ inks

-- the top of the first rows of a window: the errors above them are 0
pub record IsFirstTop (width inks : ℕ) (top : List (List (List ℤ))) : Type 0 where
  pub is_top : IsTopOf width inks top
  pub zeros : (i t n : ℕ) → top_of (edges_of top i) t n ≡ pos 0

-- room for the rows that are left, at most as many as before
pub record IsNextSlab (left : ℕ) (old new : AmountTable) : Type 0 where
  pub width : new.width ≡ old.width
  pub inks : new.inks ≡ old.inks
  pub some : 1 ≤ old.rows → 1 ≤ new.rows
  pub most : new.rows ≤ old.rows
  pub rows : 0 < left → new.rows ≡ min left old.rows

-- Row y has the amounts of a line, and the rows above it are unchanged.
pub record TakesLine (p : Printer) (kind : Kind) (line : List ℕ) (w : Window) (y : ℕ) (old new : AmountTable) : Type 0 where
  pub size : HasSizeAs old new
  pub row : HasLine p kind line w y new
  pub above : KeepsAbove old new y
