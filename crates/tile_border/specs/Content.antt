-- What each tile of a board gives, as lists. The board's amounts are diffused row by row below its top, by its kernel:
-- each error and each dot of a tile is that of its pixel.
use Rattle.std.specs.Prelude.{ℕ, ℤ, ◌+◌, ◌-◌, ◌*◌, ◌/◌, ◌%◌, Bool, ◌&&◌, nat_le, List, map}
use Rattle.std.specs.List.{range_with_len}
use Rattle.diffusion_definitions.specs.Diffusion.{Errors, Plane, Table, errors, on}
use Rattle.diffusion_kernel.specs.Tables.{table_of}
use Rattle.diffusion_kernel.specs.declared.tables.Kernel.{Kernel}
use Rattle.dot_planes.specs.Tables.{AmountTable}
use Rattle.base_definitions.specs.Packed.{packed}
use Rattle.base_definitions.specs.Counting.{count_from}
use Rattle.tile_shape.specs.declared.tiles.Place.{Place}
use Rattle.tile_edges.specs.Edges.{skewed}
use Rattle.tile_edges.specs.Tops.{top_of}
use Rattle.tile_lanes.specs.Done.{plane_of}
use Rattle.tile_border.specs.Tops.{edges_of}
use Rattle.tile_border.specs.Works.{Border}

-- the errors of ink i, below the edges that the top has of it
abbrev pub errors_below : Kernel → AmountTable → List (List (List ℤ)) → ℕ → Errors
errors_below k rows top i = errors (table_of k) (plane_of rows i) (top_of (edges_of top i))

-- f 0, f 1 and so on to f (n - 1)
unfoldable pub list_of : {A : Type 0} → (ℕ → A) → ℕ → List A
list_of f n = map f (range_with_len 0 n)

-- the errors of band j, row by row: `rows` rows from row p on, and in each `wide` of them from place u on (`skewed`)
unfoldable pub block : Errors → ℕ → ℕ → ℕ → ℕ → ℕ → List ℤ
block e j p u rows wide = list_of (λ n. skewed e j (p + n / wide) (u + n % wide)) (rows * wide)

-- the right edge of a tile: the errors at offsets 58 to 63 of each of its rows
abbrev pub right_of : Errors → Place → List ℤ
right_of e p = block e p.j 2 (64 * p.c + 64) 32 6

-- its bottom edge: the errors of its rows 30 and 31
abbrev pub bottom_of : Errors → Place → List ℤ
bottom_of e p = block e p.j 32 (64 * p.c + 6) 2 64

-- its corner edge: the last six errors of both rows of the bottom edge
abbrev pub corner_of : Errors → Place → List ℤ
corner_of e p = block e p.j 32 (64 * p.c + 64) 2 6

-- whether the tile has a dot at this offset of this row: never left of column 0
abbrev pub is_on : Table → Plane → Errors → Place → ℕ → ℕ → Bool
is_on k plane e p row offset =
    nat_le (2 * row) (64 * p.c + offset) && on k plane e (32 * p.j + row) (64 * p.c + offset - 2 * row)

-- the dots of a tile: 32 rows of 64, eight a byte, the first in the highest bit
unfoldable pub dots_of : Table → Plane → Errors → Place → List ℕ
dots_of k plane e p = packed (map (λ n. is_on k plane e p (n / 64) (n % 64)) (count_from 0 2048))

-- the edges and the dots of a tile, in each ink of the board
unfoldable pub given : Kernel → AmountTable → List (List (List ℤ)) → Place → Border
given k rows top p = record {
  side = list_of (λ i. right_of (errors_below k rows top i) p) rows.inks;
  bottom = list_of (λ i. bottom_of (errors_below k rows top i) p) rows.inks;
  corner = list_of (λ i. corner_of (errors_below k rows top i) p) rows.inks;
  bits = list_of (λ i. dots_of (table_of k) (plane_of rows i) (errors_below k rows top i) p) rows.inks;
}

-- the bottom edges of band j, by columns
unfoldable pub bottoms : Kernel → AmountTable → List (List (List ℤ)) → ℕ → ℕ → List (List (List ℤ))
bottoms k rows top j columns = list_of (λ c. (given k rows top (record { c = c; j = j })).bottom) columns
