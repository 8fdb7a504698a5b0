-- Errors of tiles, ink by ink.
use Rattle.std.specs.Prelude.{◌≡◌, ℕ, ℤ, pos, ◌<◌, ◌≤◌, List, [], length, slice_index_or}
use Rattle.diffusion_definitions.specs.Diffusion.{EachInRange}
use Rattle.tile_edges.specs.Tops.{IsCut}

-- the errors of an ink; past the last ink an empty list, whose places read as 0
abbrev pub errors_of : List (List ℤ) → ℕ → List ℤ
errors_of edge ink = slice_index_or edge ink []

-- one ink at least and four at most, each with errors in range
pub record AreInks (edge : List (List ℤ)) : Type 0 where
  pub some_inks : 1 ≤ length edge
  pub most_inks : length edge ≤ 4
  pub in_range : (ink : ℕ) → EachInRange (errors_of edge ink)

-- every error is 0
pub record AreZeros (edge : List (List ℤ)) : Type 0 where
  pub at : (ink n : ℕ) → slice_index_or (errors_of edge ink) n (pos 0) ≡ pos 0

-- Each ink has the ends of a bottom edge: the last six errors of both of its rows.
pub record CutsEnds (edge old new : List (List ℤ)) : Type 0 where
  pub len : length new ≡ length old
  pub ends : (i : ℕ) → i < length old → IsCut (errors_of edge i) (errors_of new i)
