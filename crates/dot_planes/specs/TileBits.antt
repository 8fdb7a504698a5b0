-- The invariant of a tile's dots.
use Rattle.std.specs.Prelude.{ℕ, ◌≤◌, List, length}
use Rattle.dot_planes.specs.declared.tiles.TileBits.TheInside.{Inside}

-- the inks' bytes
abbrev pub bits_of : Inside → List (List ℕ)
bits_of b = b.inks.items

-- one ink at least, and four at most
pub record IsInks (b : Inside) : Type 0 where
  pub some_inks : 1 ≤ length b.inks.items
  pub most_inks : length b.inks.items ≤ 4
