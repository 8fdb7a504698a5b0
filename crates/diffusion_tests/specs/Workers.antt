-- The passes that threads work with.
use Rattle.std.specs.Prelude.{◌≡◌, ℕ, ◌<◌, None, List, length, slice_index_or}
use Rattle.tile_board.specs.Board.{IsPassOf, view}
use Rattle.tile_board.specs.declared.kinds.Board.{Board}
use Rattle.tile_board.specs.declared.kinds.Pass.{Pass}

-- a pass of the board that holds nothing
abbrev pub IsIdle : {A : Type 0} {g : _} → Board A g → Pass → Type 0
IsIdle b p = IsPassOf b p × ((view p).held ≡ None)

-- each pass of a list is one
abbrev pub AllIdle : {A : Type 0} {g : _} → Board A g → List Pass → Type 0
AllIdle b ps = (k : ℕ) (d : Pass) → k < length ps → IsIdle b (slice_index_or ps k d)
