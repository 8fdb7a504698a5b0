-- The state of `board_core` that a state of the board shows.
use Rattle.std.specs.Prelude.{◌≡◌, ◌≢◌, ℕ, zero, suc, ◌/◌, ◌%◌, ◌==◌, Bool, false, cond, List, [], ◌∷◌, ◌++◌, Option, Some, None}
use Rattle.std.specs.Prelude.{slice_index, slice_set}
use mathlib.Core.Option.{some}
use lib.ListN.{get_elem?}
use Rattle.atomic_table.specs.Table.{State}
use Rattle.board_core.specs.States.{CoreState}
use Rattle.board_core.specs.Steps.{IsAccepted, after}
use Rattle.board_core.specs.declared.events.Event.{Event}
use Rattle.board_core.specs.declared.tiles.Status.{Status}
use Rattle.board_core.specs.declared.tiles.Status.TheVariants.{Waiting, Taken, Posted}
use Rattle.board_core.specs.declared.tiles.TileState.{TileState}
use Rattle.tile_lanes.specs.Done.{window_of}
use Rattle.board_steps.specs.declared.rule.View.{View}
use Rattle.board_steps.specs.declared.rule.Slab.{Slab}
use Rattle.board_steps.specs.declared.rule.Cell.{Cell}
use Rattle.board_steps.specs.Graph.{Graph}
use Rattle.board_steps.specs.Rule.{Ruled, setting_of}
use Rattle.board_steps.specs.Steps.{bit_of}

-- ---- what is shown

-- whether the tile that is held is t
abbrev pub holds : ℕ → Option ℕ → Bool
holds t None = false
holds t (Some q) = q == t

-- the status of tile t by a list of posted tiles: posted by the pass that the list names, or else z
abbrev pub posted_status : ℕ → List (ℕ × ℕ) → Status → Status
posted_status t [] z = z
posted_status t (x ∷ xs) z = cond (x.0 == t) (Posted x.1) (posted_status t xs z)

-- its status by one view: taken where the view holds it, posted where the list of what it posted has it, and else z
unfoldable pub own_status : ℕ → View → Status → Status
own_status t v z = cond (holds t v.held) (Taken v.number) (posted_status t v.mine z)

-- its status by all views: waiting where none lists it
unfoldable pub status : ℕ → List View → Status
status t [] = Waiting
status t (v ∷ vs) = own_status t v (status t vs)

-- whether an edge is sent: its arrival bit is set in the word of the tile that receives it
abbrev pub has_come : List ℕ → ℕ → Option ℕ → Bool
has_come words d None = false
has_come words d (Some p) = slice_index words p / bit_of d % 2 == 1

-- what is shown of tile t
abbrev pub shown_tile : Graph → State Cell View → ℕ → TileState
shown_tile G s t = record {
  status = status t s.views;
  right = has_come s.words 0 (G.next t 0);
  bottom = has_come s.words 1 (G.next t 1);
  corner = has_come s.words 2 (G.next t 2);
}

-- f k, f (k + 1) and so on, n values
abbrev pub each : {A : Type 0} → (ℕ → A) → ℕ → ℕ → List A
each f k zero = []
each f k (suc n) = f k ∷ each f (suc k) n

-- what is shown of the board
abbrev pub shown : Slab → State Cell View → CoreState
shown b s = record { shape = window_of b.rows.value; tiles = each (shown_tile (setting_of b).graph s) 0 (setting_of b).graph.tiles }

-- ---- steps

-- Two states that meet the rule, and between them one pass steps, whose view changes from v to w.
pub record Moves (b : Slab) (s s' : State Cell View) (id : ℕ) (v w : View) : Type 0 where
  pub before : Ruled (setting_of b) s
  pub after : Ruled (setting_of b) s'
  pub at : get_elem? s.views id ≡ some v
  pub views : s'.views ≡ slice_set s.views id w

-- Two states that meet the rule, and between them one pass is cut in two.
pub record Splits (b : Slab) (s s' : State Cell View) (id : ℕ) (v left right : View) : Type 0 where
  pub before : Ruled (setting_of b) s
  pub after : Ruled (setting_of b) s'
  pub at : get_elem? s.views id ≡ some v
  pub views : s'.views ≡ slice_set s.views id left ++ right ∷ []

-- Two states that meet the rule, and between them one pass joins another, which is spent then.
pub record Joins (b : Slab) (s s' : State Cell View) (id other : ℕ) (v u both spent : View) : Type 0 where
  pub before : Ruled (setting_of b) s
  pub after : Ruled (setting_of b) s'
  pub at : get_elem? s.views id ≡ some v
  pub there : get_elem? s.views other ≡ some u
  pub apart : other ≢ id
  pub views : s'.views ≡ slice_set (slice_set s.views id both) other spent

-- the core accepts the event in the state that s shows, and it leads to the state that s' shows
pub record IsEvent (b : Slab) (s s' : State Cell View) (e : Event) : Type 0 where
  pub accepted : IsAccepted (shown b s) e
  pub is : shown b s' ≡ after (shown b s) e
