-- The dots of a tile, row after row.
use Rattle.std.proofs.Common.{ℕ, ◌==◌, true, ◌≡◌, ◌+◌, ◌*◌, ◌<◌, Bool, false, ap, arith, List}
use Rattle.std.proofs.lemmas.Bool.{le-leb, lt-leb}
use Rattle.diffusion_definitions.specs.Diffusion.{Table, Plane, Errors}
use Rattle.dot_planes.specs.Tables.{row_dot}
use Rattle.tile_shape.specs.declared.tiles.Place.{Place}
use Rattle.tile_lanes.specs.Done.{HasDots}
use Rattle.tile_lanes.specs.Rows.{bit, bit_of, shown}

-- The dots of the rows before r.
pub record DotsSoFar (k : Table) (p : Plane) (e : Errors) (c j r : ℕ) (bits : List ℕ) : Type 0 where
  pub at : (q o : ℕ) → q < r → o < 64 → bit bits (64 * q + o) ≡ bit_of (shown k p e j q (64 * c + o))

row_bit : (bits : List ℕ) (n : ℕ) (b : Bool) → bit bits n ≡ bit_of b → row_dot bits n ≡ b
row_bit bits n true is = ap (λ m. m == 1) is
row_bit bits n false is = ap (λ m. m == 1) is

-- The dots of all rows are those of the tile.
pub dots_done : (k : Table) (p : Plane) (e : Errors) (place : Place) (bits : List ℕ) → DotsSoFar k p e place.c place.j 32 bits
    → HasDots k p e place bits
dots_done k p e place bits f = grind (arith, le-leb, lt-leb, row_bit)
