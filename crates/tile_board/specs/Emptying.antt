-- How the slots of a closed board are emptied.
use Rattle.std.specs.Prelude.{◌≡◌, ◌≢◌, ℕ, ℤ, ◌+◌, ◌*◌, ◌<◌, ◌≤◌, false, List, [], ◌∷◌, ◌++◌, length, slice_index_or, vec_capacity}
use Rattle.std.specs.Slots.{slots_filled, slots_items, slots_len}
use Rattle.std.specs.Slots.Ownership.{Filled}
use Rattle.std.specs.declared.alloc.Global.{Global}
use mathlib.Core.Option.{some}
use lib.ListN.{get_elem?}
use Rattle.atomic_table.specs.declared.owned.Closed.{Closed as Rest}
use Rattle.tile_shape.specs.Geometry.{IsTile, bands_of, columns_of}
use Rattle.tile_shape.specs.declared.tiles.Place.{Place}
use Rattle.tile_shape.specs.declared.tiles.Shape.{Shape}
use Rattle.board_core.specs.Numbers.{number_of}
use Rattle.board_steps.specs.declared.rule.Cell.{Cell}
use Rattle.board_steps.specs.declared.rule.Cell.TheVariants.{Bottom, Dots}
use Rattle.tile_board.specs.declared.kinds.Closed.{Closed}

-- the value of a slot is dots
abbrev pub HasDotsAt : List Cell → ℕ → Type 0
HasDotsAt items slot = (bits : List (List ℕ)) × (get_elem? items slot ≡ some (Dots bits))

-- Each slot of the window's tiles has a value, and the fourth of each tile has dots.
pub record CanEmpty (s : Shape) (rest : Rest Cell Global) : Type 0 where
  pub len : slots_len rest.slots ≡ 4 * (bands_of s * columns_of s)
  pub full : Filled (slots_filled rest.slots) 0 (slots_len rest.slots)
  pub dots : (t : ℕ) → t < bands_of s * columns_of s → HasDotsAt (slots_items rest.slots) (4 * t + 3)

-- `closed` has the dots of the tiles with numbers below n, and the bottom edges of those of the last band.
pub record EmptiedBefore (s : Shape) (n : ℕ) (items : List Cell) (closed : Closed) : Type 0 where
  pub count : length closed.dots.items ≡ n
  pub dots : (p : Place) (bits : List (List ℕ)) → IsTile s p → number_of s p < n
      → get_elem? items (4 * number_of s p + 3) ≡ some (Dots bits)
      → get_elem? closed.dots.items (number_of s p) ≡ some (record { place = p; bits = bits })
  pub columns : length closed.bottom ≡ columns_of s
  pub bottoms : (p : Place) (edge : List (List ℤ)) → IsTile s p → p.j + 1 ≡ bands_of s → number_of s p < n
      → get_elem? items (4 * number_of s p + 1) ≡ some (Bottom edge) → slice_index_or closed.bottom p.c [] ≡ edge

-- The slots of the tiles with numbers below n are emptied, and the others are not.
pub record IsLeftBy (s : Shape) (n : ℕ) (rest : Rest Cell Global) (closed : Closed) : Type 0 where
  pub len : slots_len rest.slots ≡ 4 * (bands_of s * columns_of s)
  pub full : Filled (slots_filled rest.slots) (4 * n) (slots_len rest.slots)
  pub empty : (k : ℕ) → k < 4 * n → slice_index_or (slots_filled rest.slots) k false ≡ false
  pub dots : (t : ℕ) → t < bands_of s * columns_of s → HasDotsAt (slots_items rest.slots) (4 * t + 3)
  pub room : bands_of s * columns_of s ≤ vec_capacity closed.dots
  pub before : EmptiedBefore s n (slots_items rest.slots) closed

-- The slots of tile t are emptied: its dots are added after the others, and its bottom edge is put in its column.
pub record EmptiesTile (t : ℕ) (p : Place) (rest : Rest Cell Global) (old : Closed) (rest' : Rest Cell Global) (new : Closed) : Type 0 where
  pub items : slots_items rest'.slots ≡ slots_items rest.slots
  pub len : slots_len rest'.slots ≡ slots_len rest.slots
  pub full : Filled (slots_filled rest'.slots) (4 * t + 4) (slots_len rest'.slots)
  pub empty : (k : ℕ) → 4 * t ≤ k → k < 4 * t + 4 → slice_index_or (slots_filled rest'.slots) k false ≡ false
  pub stay : (k : ℕ) → k < 4 * t → slice_index_or (slots_filled rest'.slots) k false ≡ slice_index_or (slots_filled rest.slots) k false
  pub capacity : vec_capacity new.dots ≡ vec_capacity old.dots
  pub dots : (bits : List (List ℕ)) → get_elem? (slots_items rest.slots) (4 * t + 3) ≡ some (Dots bits)
      → new.dots.items ≡ old.dots.items ++ (record { place = p; bits = bits }) ∷ []
  pub columns : length new.bottom ≡ length old.bottom
  pub bottom : (edge : List (List ℤ)) → get_elem? (slots_items rest.slots) (4 * t + 1) ≡ some (Bottom edge)
      → slice_index_or new.bottom p.c [] ≡ edge
  pub others : (c : ℕ) → c ≢ p.c → slice_index_or new.bottom c [] ≡ slice_index_or old.bottom c []
