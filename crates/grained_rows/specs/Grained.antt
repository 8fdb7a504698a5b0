-- Rows of amounts with grain put on.
use Rattle.std.specs.Prelude.{ℕ, ◌≡◌, ◌+◌, ◌*◌, ◌%◌, ◌<◌, ◌≤◌, List, [], slice_index, slice_index_or}
use Rattle.dot_planes.specs.Tables.{AmountTable, amount}
use Rattle.grained_rows.specs.declared.grain.InkGrain.{InkGrain}
use Rattle.printer_definitions.specs.Inks.{ink_place}
use Rattle.printer_definitions.specs.Printer.{Printer}
use Rattle.printer_definitions.specs.declared.inks.Ink.{Ink}
use Rattle.raw_rows.specs.Raw.{cells, ink_at}
use Rattle.separation_definitions.specs.Grain.{grain_place, grained}
use Rattle.tile_shape.specs.Geometry.{IsAt}
use Rattle.tile_shape.specs.declared.tiles.Place.{Place}

-- this grain of a printer's inks
abbrev pub grain_of : Printer → ℕ → InkGrain
grain_of p grain = record { grain = grain; inks = p.inks; limits = p.limits }

-- an amount of an ink with grain, at column x of row y of the window
abbrev pub grained_by : InkGrain → Ink → ℕ → ℕ → ℕ → ℕ
grained_by g ink x y a = grained g.grain (slice_index g.limits (ink_place ink)) (grain_place ink x y) a

-- the amount of ink i in row y of a table at column x, with grain, where the table's rows begin at row `first` of the
-- window
abbrev pub grained_amount : InkGrain → ℕ → AmountTable → ℕ → ℕ → ℕ → ℕ
grained_amount g first t i y x = grained_by g (ink_at g.inks i) x (first + y) (amount t i y x)

-- all amounts of a table with grain
abbrev pub grained_table : InkGrain → ℕ → AmountTable → AmountTable
grained_table g first t = record {
  width = t.width;
  rows = t.rows;
  inks = t.inks;
  bytes = cells (grained_amount g first t) t.inks t.rows t.width;
}

-- ---- a tile

-- The place in the recurrence of a row's first pixel in a tile, for the ink of a number. Row r of a tile begins 2 r
-- columns further left than row 0: it takes 98942 r off, and 131072 r, two rounds of all places, keep it above 0.
abbrev pub row_start : ℕ → ℕ → Place → ℕ → ℕ
row_start number first p r =
    (3166144 * p.c + 32130 * r + 37344 * (first + 32 * p.j + r) + 16384 * number) % 65536

-- The first n offsets of a tile have their amounts of an ink with grain, and all others are unchanged. The tile's slab
-- begins at row `first` of the window.
pub record GrainsOffsets (g : InkGrain) (ink : Ink) (first : ℕ) (p : Place) (n : ℕ) (old new : List ℕ) : Type 0 where
  pub pixel : (r offset x y : ℕ) → offset < n → IsAt p r offset x y → slice_index new (32 * offset + r)
      ≡ grained_by g ink x (first + y) (slice_index old (32 * offset + r))
  pub others : (k : ℕ) → 32 * n ≤ k → slice_index new k ≡ slice_index old k

-- A tile has its amounts with grain in its first n inks, and the others are unchanged.
pub record GrainsInks (g : InkGrain) (first : ℕ) (p : Place) (n : ℕ) (old new : List (List ℕ)) : Type 0 where
  pub ink : (i : ℕ) → i < n
      → GrainsOffsets g (ink_at g.inks i) first p 64 (slice_index_or old i []) (slice_index_or new i [])
  pub others : (i : ℕ) → n ≤ i → slice_index_or new i [] ≡ slice_index_or old i []
