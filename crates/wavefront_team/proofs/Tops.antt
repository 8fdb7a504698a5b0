-- The edges of one ink of a top.
use Rattle.std.proofs.Common.{◌≡◌, ℕ, ℤ, zero, suc, List, [], ◌∷◌, get_or, refl}
use Rattle.tile_border.specs.Inks.{errors_of}
use Rattle.tile_border.specs.Tops.{edges_of}

pub edge_at : (top : List (List (List ℤ))) (i c : ℕ) → get_or (edges_of top i) c [] ≡ errors_of (get_or top c []) i
edge_at [] i c = refl
edge_at (edge ∷ top) i zero = refl
edge_at (edge ∷ top) i (suc c) = edge_at top i c
