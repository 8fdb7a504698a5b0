-- The errors of a plane at the places of tiles, and the edges that tiles hand to each other.
use Rattle.std.specs.Prelude.{ℕ, ℤ, pos, ◌≡◌, ◌+◌, ◌-◌, ◌*◌, ◌<◌, List, slice_index_or}
use Rattle.diffusion_definitions.specs.Diffusion.{Errors, Plane}
use Rattle.tile_shape.specs.declared.tiles.Dir.{Dir}
use Rattle.tile_shape.specs.declared.tiles.Dir.TheVariants.{Right, Bottom, Corner}
use Rattle.tile_shape.specs.declared.tiles.Place.{Place}
use Rattle.tile_shape.specs.declared.tiles.Shape.{Shape}

-- The errors of band j, skewed: row p counts from two rows above the band, and place u from six places left of column
-- 0. So row r of the band is r + 2, and offset o of column c is 64 c + o + 6. Where there is no pixel the error is 0.
abbrev pub skewed : Errors → ℕ → ℕ → ℕ → ℤ
skewed e j p u = e (32 * j + p) (u + 2 - 2 * p)

-- The list holds these errors of band j, row by row: `rows` rows from row p on, in each `wide` from place u on.
pub record Holds (e : Errors) (j p u rows wide : ℕ) (xs : List ℤ) : Type 0 where
  pub at : (t i : ℕ) → t < rows → i < wide → slice_index_or xs (wide * t + i) (pos 0) ≡ skewed e j (p + t) (u + i)

-- ---- what a tile is handed

-- the six errors left of each row of a tile
abbrev pub IsLeft : Errors → Place → List ℤ → Type 0
IsLeft e p xs = Holds e p.j 2 (64 * p.c) 32 6 xs

-- the errors above each offset of a tile, in the two rows above its band
abbrev pub IsAbove : Errors → Place → List ℤ → Type 0
IsAbove e p xs = Holds e p.j 0 (64 * p.c + 6) 2 64 xs

-- the six errors left of those
abbrev pub IsCorner : Errors → Place → List ℤ → Type 0
IsCorner e p xs = Holds e p.j 0 (64 * p.c) 2 6 xs

-- ---- what a tile hands on

-- the errors at offsets 58 to 63 of each row of a tile
abbrev pub IsRight : Errors → Place → List ℤ → Type 0
IsRight e p xs = Holds e p.j 2 (64 * p.c + 64) 32 6 xs

-- the errors of a tile's rows 30 and 31
abbrev pub IsBottom : Errors → Place → List ℤ → Type 0
IsBottom e p xs = Holds e p.j 32 (64 * p.c + 6) 2 64 xs

-- the errors at offsets 58 to 63 of those
abbrev pub IsLowerCorner : Errors → Place → List ℤ → Type 0
IsLowerCorner e p xs = Holds e p.j 32 (64 * p.c + 64) 2 6 xs

-- the edge of a tile that goes this way
abbrev pub IsGiven : Errors → Dir → Place → List ℤ → Type 0
IsGiven e Right from xs = IsRight e from xs
IsGiven e Bottom from xs = IsBottom e from xs
IsGiven e Corner from xs = IsLowerCorner e from xs

-- the edge that comes to a tile this way
abbrev pub IsTaken : Errors → Dir → Place → List ℤ → Type 0
IsTaken e Right to xs = IsLeft e to xs
IsTaken e Bottom to xs = IsAbove e to xs
IsTaken e Corner to xs = IsCorner e to xs

-- how many errors an edge has
abbrev pub edge_length : Dir → ℕ
edge_length Right = 192
edge_length Bottom = 128
edge_length Corner = 12

-- the edge comes from a tile of the board: above the first band there are only edges of a top
abbrev pub IsOnBoard : Dir → Place → Type 0
IsOnBoard Right to = Unit {0}
IsOnBoard Bottom to = 0 < to.j
IsOnBoard Corner to = 0 < to.j

-- the plane has the size of the window
pub record IsPlaneOf (s : Shape) (p : Plane) : Type 0 where
  pub width : p.width ≡ s.width
  pub height : p.height ≡ s.height
