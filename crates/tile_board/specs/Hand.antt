-- The slots that a pass has between calls.
use Rattle.std.specs.Prelude.{ℕ, List, [], Option, Some, None}
use Rattle.tile_shape.specs.declared.tiles.Place.{Place}
use Rattle.board_steps.specs.Steps.{emptied_hand}
use Rattle.board_steps.specs.declared.rule.Cell.{Cell}
use Rattle.board_steps.specs.declared.rule.Slab.{Slab}
use Rattle.board_steps.specs.declared.rule.View.{View}
use Rattle.tile_board.specs.Slabs.{number_in}

-- the number of the tile that is held
abbrev pub held_number : Slab → Option Place → Option ℕ
held_number b None = None
held_number b (Some p) = Some (number_in b p)

-- the slots by the number of the tile that is held
abbrev pub hand_at : Slab → Option ℕ → List (ℕ × Cell)
hand_at b None = []
hand_at b (Some t) = emptied_hand b t

-- none, or those that it took with the tile that it holds, all empty
abbrev pub hand_of : View → List (ℕ × Cell)
hand_of v = hand_at v.board v.held
