-- Tiles by their numbers, and which tile receives an edge. Direction 0 is right, 1 bottom, 2 corner. Direction 3 is a
-- tile's dots, which no tile receives.
use Rattle.std.specs.Prelude.{◌≡◌, ◌≢◌, ◌<◌, ℕ, zero, suc, ◌+◌, ◌-◌, ◌*◌, ◌/◌, ◌%◌, ◌&&◌, Bool, true, false, Option, Some, None, nat_lt}
use Rattle.tile_shape.specs.Geometry.{bands_of, columns_of}
use Rattle.tile_shape.specs.declared.tiles.Shape.{Shape}

-- `next t d` is the tile that receives the edge of tile t in the direction d, and `from t d` the tile that the edge in
-- the direction d comes to tile t from.
pub record Graph : Type 0 where
  pub tiles : ℕ
  pub next : ℕ → ℕ → Option ℕ
  pub from : ℕ → ℕ → Option ℕ

-- An edge has one receiver at most, which gets the edge of that direction from no other tile and is not the tile
-- itself, and there are three directions.
pub record IsGraph (G : Graph) : Type 0 where
  pub there : (t d p : ℕ) → t < G.tiles → G.next t d ≡ Some p → (p < G.tiles) × (p ≢ t) × (d < 3) × (G.from p d ≡ Some t)
  pub back : (p d t : ℕ) → p < G.tiles → G.from p d ≡ Some t → (t < G.tiles) × (d < 3) × (G.next t d ≡ Some p)

-- x where the test holds
abbrev pub only_if : Bool → ℕ → Option ℕ
only_if true x = Some x
only_if false x = None

-- the tile that receives the edge in a direction of tile t in column c and band j, among C columns and B bands
abbrev pub next_of : ℕ → ℕ → ℕ → ℕ → ℕ → ℕ → Option ℕ
next_of C B c j t zero = only_if (nat_lt (c + 1) C) (t + 1)
next_of C B c j t (suc zero) = only_if (nat_lt 0 c && nat_lt (j + 1) B) (t + C - 1)
next_of C B c j t (suc (suc zero)) = only_if (nat_lt (j + 1) B) (t + C)
next_of C B c j t (suc (suc (suc d))) = None

-- the tile that sends it the edge of a direction
abbrev pub from_of : ℕ → ℕ → ℕ → ℕ → ℕ → ℕ → Option ℕ
from_of C B c j t zero = only_if (nat_lt 0 c) (t - 1)
from_of C B c j t (suc zero) = only_if (nat_lt (c + 1) C && nat_lt 0 j) (t + 1 - C)
from_of C B c j t (suc (suc zero)) = only_if (nat_lt 0 j) (t - C)
from_of C B c j t (suc (suc (suc d))) = None

-- the same two by the tile's number alone
abbrev pub next_in : ℕ → ℕ → ℕ → ℕ → Option ℕ
next_in C B t d = next_of C B (t % C) (t / C) t d

abbrev pub from_in : ℕ → ℕ → ℕ → ℕ → Option ℕ
from_in C B t d = from_of C B (t % C) (t / C) t d

-- the tiles of a window, and who receives what
abbrev pub graph_of : Shape → Graph
graph_of s = record {
  tiles = bands_of s * columns_of s;
  next = next_in (columns_of s) (bands_of s);
  from = from_in (columns_of s) (bands_of s);
}
