-- What the calls of a board say of it and of its passes.
use Rattle.std.specs.Prelude.{◌≡◌, ℕ, ◌/◌, ◌%◌, ◌<◌, ◌⊎◌, true, [], Option, Some, None}
use Rattle.tile_shape.specs.Geometry.{IsReceiver, IsTile}
use Rattle.tile_shape.specs.declared.tiles.Dir.{Dir}
use Rattle.tile_shape.specs.declared.tiles.Dir.TheVariants.{Right, Bottom, Corner}
use Rattle.tile_shape.specs.declared.tiles.Needs.{Needs}
use Rattle.tile_shape.specs.declared.tiles.Place.{Place}
use Rattle.board_steps.specs.Graph.{graph_of}
use Rattle.board_steps.specs.Rule.{times}
use Rattle.board_steps.specs.Steps.{KnewIn}
use Rattle.board_steps.specs.declared.rule.Slab.{Slab}
use Rattle.board_steps.specs.declared.rule.View.{View}
use Rattle.tile_board.specs.declared.kinds.Board.{Board}
use Rattle.tile_board.specs.declared.kinds.Pass.{Pass}
use Rattle.tile_board.specs.declared.kinds.Claim.{Claim}
use Rattle.tile_board.specs.declared.kinds.Claim.TheVariants.{Got, NotReady, Gone}
use Rattle.tile_board.specs.Slabs.{number_in, shape_of}
use Rattle.tile_board.specs.Tasks.{IsTaskOf}

-- what the board is made for
abbrev pub slab : {A : Type 0} {g : _} → Board A g → Slab
slab b = b.table.shared.key

-- what the pass knows
abbrev pub view : Pass → View
view p = p.seat.me.0

-- the tile that the pass holds
abbrev pub holding : Pass → Option Place
holding p = p.held

-- the pass is one of this board
abbrev pub IsPassOf : {A : Type 0} {g : _} → Board A g → Pass → Type 0
IsPassOf b p = (p.seat.table_id ≡ b.table.shared.table_id) × (p.seat.me.0.board ≡ b.table.shared.key)

-- A claim leaves all of these but the count of looks, and looks at least once.
pub record Kept (v w : View) : Type 0 where
  pub number : w.number ≡ v.number
  pub made : w.made ≡ v.made
  pub mine : w.mine ≡ v.mine
  pub parts : w.parts ≡ v.parts
  pub board : w.board ≡ v.board
  pub looks : v.looks < w.looks

-- A claim that hands no tile out. The word that it found has every bit that the pass knew to be set, and is what the
-- pass has seen last.
pub record Refused (b : Slab) (v : View) (t : Place) (word : ℕ) (w : View) : Type 0 where
  pub kept : Kept v w
  pub held : w.held ≡ None
  pub sent : w.sent ≡ v.sent
  pub seen : w.seen ≡ Some (number_in b t, word)
  pub knew : KnewIn (graph_of (shape_of b)) v (number_in b t) word

-- the arrival bit of a direction in a word
abbrev pub arrival : Dir → ℕ → ℕ
arrival Right word = word % 2
arrival Bottom word = word / 2 % 2
arrival Corner word = word / 4 % 2

-- The word lacks the bit of an edge that comes to the tile, from a tile that the pass itself has not posted.
pub record LacksEdge (b : Slab) (v : View) (t : Place) (word : ℕ) : Type 0 where
  pub dir : Dir
  pub from : Place
  pub tile : IsTile (shape_of b) from
  pub receiver : IsReceiver dir from t
  pub clear : arrival dir word ≡ 0
  pub not_mine : times (number_in b from) v.mine ≡ 0

-- A claim that hands tile t out: the pass holds it, and had not posted it.
pub record Gets (b : Slab) (v : View) (t : Place) (w : View) : Type 0 where
  pub kept : Kept v w
  pub held : w.held ≡ Some (number_in b t)
  pub sent : w.sent ≡ []
  pub word : ℕ
  pub seen : w.seen ≡ Some (number_in b t, word)
  pub not_mine : times (number_in b t) v.mine ≡ 0

-- the answer to a claim of tile t by a pass whose view was v and becomes w
abbrev pub Claimed : Slab → View → Place → Claim → View → Type 0
Claimed b v t (Got task) w = Gets b v t w × (task.place ≡ t) × IsTaskOf b task
Claimed b v t (NotReady word) w = Refused b v t word w × (word / 8 % 2 ≡ 0) × LacksEdge b v t word
Claimed b v t (Gone word) w = Refused b v t word w × (word / 8 % 2 ≡ 1) × (v.parts ≡ 256 → times (number_in b t) v.mine ≡ 1)

-- the tile that a claim has handed out
abbrev pub got : Claim → Option Place
got (Got task) = Some task.place
got (NotReady word) = None
got (Gone word) = None

-- the bit of an edge that the tile needs is clear in the word
abbrev pub Lacks : Needs → ℕ → Type 0
Lacks needs word =
    ((needs.left ≡ true) × (word % 2 ≡ 0)) ⊎ (((needs.above ≡ true) × (word / 2 % 2 ≡ 0)) ⊎ ((needs.corner ≡ true) × (word / 4 % 2 ≡ 0)))
