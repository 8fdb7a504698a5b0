-- How the slots of a tile, and those of the edges that come to it, are emptied and filled.
use Rattle.std.specs.Prelude.{◌≡◌, ℕ, ◌+◌, ◌*◌, List, [], ◌∷◌, ◌++◌, Option, Some, None, replicate}
use Rattle.atomic_table.specs.Table.{Me, rest}
use Rattle.board_steps.specs.Rule.{setting_of}
use Rattle.board_steps.specs.Steps.{incoming, own_slot, sent_view}
use Rattle.board_steps.specs.declared.rule.Cell.{Cell}
use Rattle.board_steps.specs.declared.rule.Cell.TheVariants.{Empty}
use Rattle.board_steps.specs.declared.rule.Slab.{Slab}
use Rattle.board_steps.specs.declared.rule.View.{View}
use Rattle.tile_board.specs.declared.room.Blanks.{Blanks}
use Rattle.tile_board.specs.Slabs.{amounts_of}

-- the values of tile t's own slots while it waits
pub record AreBlanksOf (b : Slab) (t : ℕ) (r : Blanks) : Type 0 where
  pub right : r.right ≡ (setting_of b).fresh t 0
  pub bottom : r.bottom ≡ (setting_of b).fresh t 1
  pub corner : r.corner ≡ (setting_of b).fresh t 2
  pub dots : r.dots ≡ replicate (amounts_of b).inks (replicate {A = ℕ} 256 0)

-- the slot of the edge that comes to tile t in the direction d, if one does, with the value that x gives it
abbrev pub comes : Slab → (ℕ → ℕ → Cell) → ℕ → ℕ → List (ℕ × Cell)
comes b x d t = incoming x d ((setting_of b).graph.from t d)

-- an empty slot
abbrev pub emptied : ℕ → ℕ → Cell
emptied q d = Empty

-- The own slots of tile t are emptied and last, and those of the edges that come to it are first.
pub record OwnEmptied (b : Slab) (t : ℕ) (m n : Me Cell View) : Type 0 where
  pub view : n.0 ≡ m.0
  pub hand : n.1 ≡ comes b (setting_of b).content 0 t ++ (comes b (setting_of b).content 1 t ++ (comes b (setting_of b).content 2 t
      ++ (4 * t + 0, Empty) ∷ (4 * t + 1, Empty) ∷ (4 * t + 2, Empty) ∷ (4 * t + 3, Empty) ∷ []))

-- the slot of the edge that comes in the direction d is the first, if one does
abbrev pub IsNext : Slab → ℕ → ℕ → List (ℕ × Cell) → Type 0
IsNext b d t hand = (r : List (ℕ × Cell)) × (hand ≡ comes b (setting_of b).content d t ++ r)

-- That edge is taken out, and its slot is moved after the others, empty.
pub record TakesIn (b : Slab) (d t : ℕ) (m n : Me Cell View) : Type 0 where
  pub view : n.0 ≡ m.0
  pub hand : (r : List (ℕ × Cell)) → m.1 ≡ comes b (setting_of b).content d t ++ r → n.1 ≡ r ++ comes b emptied d t

-- the view once an edge is given: sent where a tile receives it
abbrev pub gave_view : View → ℕ → Option ℕ → View
gave_view v d None = v
gave_view v d (Some p) = sent_view v d

-- The edge in the direction d is put into its slot, which was the first. Where a tile receives it the slot goes back to
-- the table, and else it is moved after the others.
pub record GivesEdge (b : Slab) (d t : ℕ) (m n : Me Cell View) : Type 0 where
  pub view : n.0 ≡ gave_view m.0 d ((setting_of b).graph.next t d)
  pub hand : n.1 ≡ rest m.1 ++ own_slot (setting_of b).content t d ((setting_of b).graph.next t d)
