-- The two rows of errors above a plane, as bottom edges of tiles.
use Rattle.std.specs.Prelude.{ℕ, ℤ, pos, ◌≡◌, ◌+◌, ◌*◌, ◌/◌, ◌%◌, ◌<◌, List, [], length, slice_index_or}
use Rattle.diffusion_definitions.specs.Diffusion.{Errors}
use Rattle.tile_shape.specs.Geometry.{columns_of}
use Rattle.tile_shape.specs.declared.tiles.Shape.{Shape}
use Rattle.tile_edges.specs.Edges.{IsBottom}

-- A top: a bottom edge for each column of tiles, read as rows 30 and 31 of a band above. Where it has no such column
-- the error is 0. The empty list is the top of a page.
abbrev pub top_of : List (List ℤ) → Errors
top_of edges t n =
    let u = n + 56 + 2 * t in slice_index_or (slice_index_or edges (u / 64) []) (64 * t + u % 64) (pos 0)

-- above the plane the errors are the top's
abbrev pub IsBelow : List (List ℤ) → Errors → Type 0
IsBelow edges e = (t n : ℕ) → t < 2 → e t n ≡ top_of edges t n

-- The list is the last six errors of both rows of an edge of a top.
pub record IsCut (edge xs : List ℤ) : Type 0 where
  pub at : (t i : ℕ) → t < 2 → i < 6 → slice_index_or xs (6 * t + i) (pos 0) ≡ slice_index_or edge (64 * t + 58 + i) (pos 0)

-- these are the bottom edges of a band of tiles, by columns
pub record AreBottoms (s : Shape) (e : Errors) (j : ℕ) (edges : List (List ℤ)) : Type 0 where
  pub count : length edges ≡ columns_of s
  pub at : (c : ℕ) → c < columns_of s → IsBottom e (record { c = c; j = j }) (slice_index_or edges c [])
