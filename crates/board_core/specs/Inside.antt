-- The fields of a core.
use Rattle.std.specs.Prelude.{◌≢◌, ℕ, ◌<◌, ◌≤◌, length, slice_index_or}
use Rattle.board_core.specs.States.{CoreState, IsCore, fresh}
use Rattle.board_core.specs.declared.scheduler.Core.TheInside.{Inside}
use Rattle.board_core.specs.declared.tiles.Status.TheVariants.{Waiting}

-- the state of the tiles that a core keeps
abbrev pub state_of : Inside → CoreState
state_of core = record { shape = core.shape; tiles = core.tiles.items }

-- The core has each tile of the window, and none of the first `begun` tiles waits.
pub record IsWhole (core : Inside) : Type 0 where
  pub whole : IsCore (state_of core)
  pub most : core.begun ≤ length core.tiles.items
  pub none_waits : (n : ℕ) → n < core.begun → (slice_index_or core.tiles.items n fresh).status ≢ Waiting
