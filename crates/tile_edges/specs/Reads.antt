-- Which errors a pixel reads, and where a tile has them.
use Rattle.std.specs.Prelude.{ℕ, ℤ, pos, ◌≡◌, ◌+◌, ◌*◌, ◌<◌, ◌≤◌, ◌⊎◌, List, slice_index, slice_index_or}
use Rattle.diffusion_definitions.specs.Diffusion.{Errors, Table}
use Rattle.tile_shape.specs.declared.tiles.Place.{Place}
use Rattle.tile_edges.specs.Edges.{skewed}

-- The pixel at x, y reads the error at row m and place n of a table of errors, in which row y stands at y + 2 and
-- column x at x + 4: those of its own row at x - 1 and x - 2, and those of two rows above at x - 2 to x + 2.
abbrev pub ReadsAt : ℕ → ℕ → ℕ → ℕ → Type 0
ReadsAt x y m n = ((m ≡ y + 2) × (x + 2 ≤ n) × (n ≤ x + 3)) ⊎ ((y ≤ m) × (m ≤ y + 1) × (x + 2 ≤ n) × (n ≤ x + 6))

-- One of these shares is above 0, by which an error at place n gives to a place `reach` right of it and more.
pub record HasShare (shares : List ℕ) (n reach : ℕ) : Type 0 where
  pub share : ℕ
  pub some : 0 < slice_index shares share
  pub place : n + share ≡ reach

-- by a share above 0 of the kernel's table the error at row m and place n gives to the pixel at x, y
abbrev pub GivesTo : Table → ℕ → ℕ → ℕ → ℕ → Type 0
GivesTo k x y m n =
    ((m ≡ y + 2) × HasShare k.right n (x + 3)) ⊎ ((m ≡ y + 1) × HasShare k.below n (x + 6)) ⊎ ((m ≡ y) × HasShare k.below2 n (x + 6))

-- A table has twelve shares above 0.
pub record HasAllShares (k : Table) : Type 0 where
  pub right : (i : ℕ) → i < 2 → 0 < slice_index k.right i
  pub below : (i : ℕ) → i < 5 → 0 < slice_index k.below i
  pub below2 : (i : ℕ) → i < 5 → 0 < slice_index k.below2 i

-- a list of `rows` rows of `wide` errors has this error
pub record HasError (rows wide : ℕ) (xs : List ℤ) (error : ℤ) : Type 0 where
  pub row : ℕ
  pub offset : ℕ
  pub row_in : row < rows
  pub offset_in : offset < wide
  pub is : slice_index_or xs (wide * row + offset) (pos 0) ≡ error

-- A tile's own error, at a place that diffusion takes before offset o of row r.
pub record IsOwnBefore (e : Errors) (p : Place) (r o : ℕ) (error : ℤ) : Type 0 where
  pub row : ℕ
  pub offset : ℕ
  pub before : 64 * row + offset < 64 * r + o
  pub offset_in : offset < 64
  pub is : skewed e p.j (row + 2) (64 * p.c + offset + 6) ≡ error

-- the error is one that the tile already has, or is in an edge that it was handed
abbrev pub IsAtHand : Errors → Place → ℕ → ℕ → List ℤ → List ℤ → List ℤ → ℤ → Type 0
IsAtHand e p r o left above corner error =
    IsOwnBefore e p r o error ⊎ HasError 32 6 left error ⊎ HasError 2 64 above error ⊎ HasError 2 6 corner error
