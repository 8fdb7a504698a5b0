-- The bytes of an image (raw PBM, of kind P4, of the Netpbm formats): `P4`, the columns and the rows in decimal, and
-- the rows from the top. A row begins with a byte of its own, its first pixel is the byte's highest bit, 1 is black,
-- and spare bits are 0.
use Rattle.std.specs.Prelude.{ℕ, List, ◌++◌, codes, decimal, map}
use Rattle.std.specs.List.{flat_map}
use Rattle.base_definitions.specs.Packed.{packed}
use Rattle.base_definitions.specs.Counting.{count_from}
use Rattle.dot_planes.specs.Tables.{DotTable, dot}

abbrev pub image_header : ℕ → ℕ → List ℕ
image_header columns rows = codes "P4\n" ++ decimal columns ++ codes " " ++ decimal rows ++ codes "\n"

abbrev pub image_row : ℕ → DotTable → ℕ → ℕ → List ℕ
image_row columns t ink y = packed (map (dot t ink y) (count_from 0 columns))

-- this many rows from one on
abbrev pub image_rows : ℕ → DotTable → ℕ → ℕ → ℕ → List ℕ
image_rows columns t ink y many = flat_map (image_row columns t ink) (count_from y many)

-- The image of an ink with this many columns and rows.
abbrev pub image : ℕ → ℕ → DotTable → ℕ → List ℕ
image columns rows t ink = image_header columns rows ++ image_rows columns t ink 0 rows
