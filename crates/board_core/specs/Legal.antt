-- What holds of the tiles after any accepted events.
use Rattle.std.specs.Prelude.{◌≡◌, ℕ, true}
use Rattle.tile_shape.specs.Geometry.{IsTile}
use Rattle.tile_shape.specs.declared.tiles.Dir.{Dir}
use Rattle.tile_shape.specs.declared.tiles.Place.{Place}
use Rattle.board_core.specs.States.{AreOnce, CoreState, IsBegun, IsPosted, IsTakenBy, sent, sent_edges}
use Rattle.board_core.specs.Steps.{Gives}

-- A legal state of the tiles: accepted events lead only to such states.
pub record Legal (core : CoreState) : Type 0 where
  -- an edge is sent only where its tile is taken or posted
  pub source : (from : Place) (d : Dir) → IsTile core.shape from → sent core from d ≡ true → IsBegun core from
  -- each edge that a taken or posted tile needs is sent
  pub needs : (from to : Place) (d : Dir) → Gives core.shape from d to → IsBegun core to → sent core from d ≡ true
  -- each edge of a posted tile that has a receiver is sent
  pub given : (from to : Place) (d : Dir) → Gives core.shape from d to → IsPosted core from → sent core from d ≡ true
  -- no edge is listed twice
  pub once : AreOnce (sent_edges core)

-- no tile is taken, and one is not posted
pub record IsIdle (core : CoreState) : Type 0 where
  pub none_taken : (p : Place) (seat : ℕ) → IsTile core.shape p → ¬ IsTakenBy core p seat
  pub not_done : ¬ ((p : Place) → IsTile core.shape p → IsPosted core p)
