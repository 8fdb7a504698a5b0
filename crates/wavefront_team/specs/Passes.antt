-- The passes of a slab's workers.
use Rattle.std.specs.Prelude.{◌≡◌, ℕ, ◌+◌, ◌*◌, ◌<◌, ◌≤◌, None}
use Rattle.board_steps.specs.Rule.{times}
use Rattle.atomic_table.specs.Seated.{TableId}
use Rattle.board_steps.specs.declared.rule.Slab.{Slab}
use Rattle.tile_board.specs.Board.{slab, view}
use Rattle.tile_board.specs.Slabs.{number_in, shape_of}
use Rattle.tile_board.specs.declared.kinds.Board.{Board}
use Rattle.tile_board.specs.declared.kinds.Pass.{Pass}
use Rattle.tile_shape.specs.Geometry.{IsTile, columns_of}
use Rattle.tile_shape.specs.declared.tiles.Place.{Place}

-- What the passes of a board know it by, whatever its rows are: its table, and what it is made for.
pub record Desk : Type 0 where
  pub table : TableId
  pub slab : Slab

-- the desk of a board
abbrev pub desk : {A : Type 0} {g : _} → Board A g → Desk
desk b = record { table = b.table.shared.table_id; slab = slab b }

-- the pass is one of this board
abbrev pub IsPassAt : Desk → Pass → Type 0
IsPassAt b p = (p.seat.table_id ≡ b.table) × (p.seat.me.0.board ≡ b.slab)

-- a pass of the board that holds nothing and has this many parts
abbrev pub IsIdle : Desk → ℕ → Pass → Type 0
IsIdle b parts p = IsPassAt b p × ((view p).held ≡ None) × ((view p).parts ≡ parts)

-- a worker's pass has one part
abbrev pub IsWorkerOf : Desk → Pass → Type 0
IsWorkerOf b p = IsIdle b 1 p

-- A worker's share of a board: it is lent this board, and its pass has one part.
pub record IsShareOf (b lent : Desk) (p : Pass) : Type 0 where
  pub same : lent ≡ b
  pub worker : IsWorkerOf b p

-- the pass has all parts of the board
abbrev pub HasAll : Desk → Pass → Type 0
HasAll b p = IsIdle b 256 p

-- and it is the first one
abbrev pub IsFirst : Desk → Pass → Type 0
IsFirst b p = HasAll b p × ((view p).number ≡ 0)

-- a pass of the board that holds nothing and has the parts that this many workers left
abbrev pub IsRest : Desk → ℕ → Pass → Type 0
IsRest b workers p = IsPassAt b p × ((view p).held ≡ None) × ((view p).parts + workers ≡ 256)

-- the pass has posted the tiles of the first j bands, and the first c of the band after them
abbrev pub HasPosted : Desk → ℕ → ℕ → Pass → Type 0
HasPosted b j c p = (t : ℕ) → t < j * columns_of (shape_of b.slab) + c → 1 ≤ times t (view p).mine

-- it has posted every tile
abbrev pub HasPostedAll : Desk → Pass → Type 0
HasPostedAll b p = (t : Place) → IsTile (shape_of b.slab) t → 1 ≤ times (number_in b.slab t) (view p).mine
