-- What an event does, and when it is refused.
use Rattle.std.specs.Prelude.{◌≡◌, ℕ, ◌<◌, ◌⊎◌, true, false, List, [], ◌∷◌, slice_set}
use Rattle.tile_shape.specs.Geometry.{IsReceiver, IsTile}
use Rattle.tile_shape.specs.declared.tiles.Dir.{Dir}
use Rattle.tile_shape.specs.declared.tiles.Dir.TheVariants.{Right, Bottom, Corner}
use Rattle.tile_shape.specs.declared.tiles.Place.{Place}
use Rattle.tile_shape.specs.declared.tiles.Shape.{Shape}
use Rattle.board_core.specs.declared.events.Event.{Event}
use Rattle.board_core.specs.declared.events.Event.TheVariants.{Take, Send, Post}
use Rattle.board_core.specs.declared.events.CoreFault.{CoreFault}
use Rattle.board_core.specs.declared.events.CoreFault.TheVariants.{NoSuchTile, Taken, NotReady, NotYours, Sent, Unsent}
use Rattle.board_core.specs.declared.tiles.Status.TheVariants as status
use Rattle.board_core.specs.declared.tiles.TileState.{TileState}
use Rattle.board_core.specs.Numbers.{number_of}
use Rattle.board_core.specs.States.{CoreState, IsTakenBy, IsWaiting, sent, tile_at}

-- ---- refusals

-- an edge of one tile goes to another of the window
pub record Gives (s : Shape) (from : Place) (d : Dir) (to : Place) : Type 0 where
  pub source : IsTile s from
  pub receiver : IsTile s to
  pub goes : IsReceiver d from to

-- the window has the tile, and the tile that would receive the edge
abbrev pub IsKnown : Shape → Event → Type 0
IsKnown s (Take p seat) = IsTile s p
IsKnown s (Send p d seat) = IsTile s p × ((to : Place) × Gives s p d to)
IsKnown s (Post p seat) = IsTile s p

-- the edge that comes to the tile this way was not sent
pub record LacksEdge (core : CoreState) (to : Place) (d : Dir) : Type 0 where
  pub from : Place
  pub gives : Gives core.shape from d to
  pub unsent : sent core from d ≡ false

-- an edge that comes to the tile was not sent
abbrev pub Lacks : CoreState → Place → Type 0
Lacks core to = (d : Dir) × LacksEdge core to d

-- the edge of the tile that goes this way has a receiver, and was not sent
pub record OwesEdge (core : CoreState) (from : Place) (d : Dir) : Type 0 where
  pub to : Place
  pub gives : Gives core.shape from d to
  pub unsent : sent core from d ≡ false

-- an edge of the tile that has a receiver was not sent
abbrev pub Owes : CoreState → Place → Type 0
Owes core from = (d : Dir) × OwesEdge core from d

-- A cause to refuse an event.
abbrev pub Applies : CoreState → Event → CoreFault → Type 0
Applies core e NoSuchTile = ¬ IsKnown core.shape e
Applies core (Take p seat) Taken = ¬ IsWaiting core p
Applies core (Take p seat) NotReady = IsWaiting core p × Lacks core p
Applies core (Send p d seat) NotYours = ¬ IsTakenBy core p seat
Applies core (Send p d seat) Sent = sent core p d ≡ true
Applies core (Post p seat) NotYours = ¬ IsTakenBy core p seat
Applies core (Post p seat) Unsent = Owes core p
Applies core e fault = ⊥

-- the causes in their order
abbrev pub rank : CoreFault → ℕ
rank NoSuchTile = 0
rank Taken = 1
rank NotReady = 2
rank NotYours = 3
rank Sent = 4
rank Unsent = 5

-- the first cause to refuse the event
pub record IsFirst (core : CoreState) (e : Event) (fault : CoreFault) : Type 0 where
  pub applies : Applies core e fault
  pub first : (other : CoreFault) → rank other < rank fault → ¬ Applies core e other

-- nothing refuses the event
abbrev pub IsAccepted : CoreState → Event → Type 0
IsAccepted core e = (fault : CoreFault) → ¬ Applies core e fault

-- ---- what an accepted event does

-- the tiles, where one of them has this state
abbrev pub with_tile : CoreState → Place → TileState → CoreState
with_tile core p t = record { shape = core.shape; tiles = slice_set core.tiles (number_of core.shape p) t }

-- the state of a tile, after it sent this edge
abbrev pub with_sent : TileState → Dir → TileState
with_sent t Right = record { status = t.status; right = true; bottom = t.bottom; corner = t.corner }
with_sent t Bottom = record { status = t.status; right = t.right; bottom = true; corner = t.corner }
with_sent t Corner = record { status = t.status; right = t.right; bottom = t.bottom; corner = true }

-- the tiles after an accepted event
abbrev pub after : CoreState → Event → CoreState
after core (Take p seat) =
    let t = tile_at core p in
    with_tile core p (record { status = status.Taken seat; right = t.right; bottom = t.bottom; corner = t.corner })
after core (Send p d seat) = with_tile core p (with_sent (tile_at core p) d)
after core (Post p seat) =
    let t = tile_at core p in
    with_tile core p (record { status = status.Posted seat; right = t.right; bottom = t.bottom; corner = t.corner })

-- these events are accepted one after another
abbrev pub Runs : CoreState → List Event → CoreState → Type 0
Runs core [] end = end ≡ core
Runs core (e ∷ events) end = IsAccepted core e × Runs (after core e) events end

-- ---- ready tiles

-- the tile waits and lacks no edge
pub record IsReadyTile (core : CoreState) (p : Place) : Type 0 where
  pub tile : IsTile core.shape p
  pub waiting : IsWaiting core p
  pub whole : ¬ Lacks core p

-- one tile comes before another: in a band above, or left of it in its band
abbrev pub IsBefore : Place → Place → Type 0
IsBefore q p = (q.j < p.j) ⊎ ((q.j ≡ p.j) × (q.c < p.c))

-- The tile is ready, and none before it is.
pub record IsFirstReady (core : CoreState) (p : Place) : Type 0 where
  pub ready : IsReadyTile core p
  pub first : (q : Place) → IsBefore q p → ¬ IsReadyTile core q
