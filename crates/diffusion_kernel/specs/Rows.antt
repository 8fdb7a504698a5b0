-- Tables by their places.
use Rattle.std.specs.Prelude.{ℕ, List, [], ◌∷◌, slice_index}
use Rattle.diffusion_definitions.specs.Diffusion.{Table}

-- the five shares of a row
abbrev pub five_of : List ℕ → List ℕ
five_of shares = slice_index shares 0 ∷ slice_index shares 1 ∷ slice_index shares 2 ∷ slice_index shares 3 ∷ slice_index shares 4 ∷ []

-- a table's shares at the twelve places of a printed one
abbrev pub at_places : Table → Table
at_places k = record { right = slice_index k.right 0 ∷ slice_index k.right 1 ∷ []; below = five_of k.below; below2 = five_of k.below2 }
