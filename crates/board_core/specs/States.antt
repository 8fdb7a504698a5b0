-- Where the work on the tiles of a window stands.
use Rattle.std.specs.Prelude.{◌≡◌, ℕ, zero, suc, ◌+◌, ◌*◌, ◌⊎◌, Bool, true, false, List, [], ◌∷◌, ◌++◌, length, replicate, slice_index_or}
use Rattle.tile_shape.specs.Geometry.{IsShape, bands_of, columns_of}
use Rattle.tile_shape.specs.declared.tiles.Dir.{Dir}
use Rattle.tile_shape.specs.declared.tiles.Dir.TheVariants.{Right, Bottom, Corner}
use Rattle.tile_shape.specs.declared.tiles.Place.{Place}
use Rattle.tile_shape.specs.declared.tiles.Shape.{Shape}
use Rattle.board_core.specs.Numbers.{number_of}
use Rattle.board_core.specs.declared.tiles.Status.TheVariants.{Waiting, Taken, Posted}
use Rattle.board_core.specs.declared.tiles.TileState.{TileState}

-- The tiles of a window, by band and then column.
pub record CoreState : Type 0 where
  pub shape : Shape
  pub tiles : List TileState

-- the window's size is within bounds, and the state has each of its tiles
pub record IsCore (core : CoreState) : Type 0 where
  pub shape : IsShape core.shape
  pub count : length core.tiles ≡ columns_of core.shape * bands_of core.shape

-- a tile that waits and has sent nothing
abbrev pub fresh : TileState
fresh = record { status = Waiting; right = false; bottom = false; corner = false }

-- every tile waits, and no edge is sent
abbrev pub start : Shape → CoreState
start s = record { shape = s; tiles = replicate (columns_of s * bands_of s) fresh }

-- the state of a tile
unfoldable pub tile_at : CoreState → Place → TileState
tile_at core p = slice_index_or core.tiles (number_of core.shape p) fresh

-- ---- statuses

-- no seat has taken the tile
abbrev pub IsWaiting : CoreState → Place → Type 0
IsWaiting core p = (tile_at core p).status ≡ Waiting

-- this seat works on the tile
abbrev pub IsTakenBy : CoreState → Place → ℕ → Type 0
IsTakenBy core p seat = (tile_at core p).status ≡ Taken seat

-- a seat has finished the tile
abbrev pub IsPosted : CoreState → Place → Type 0
IsPosted core p = (seat : ℕ) × ((tile_at core p).status ≡ Posted seat)

-- a seat has taken the tile, and may have posted it
abbrev pub IsBegun : CoreState → Place → Type 0
IsBegun core p = ¬ IsWaiting core p

-- ---- edges sent

-- whether a tile in this state has sent this edge
abbrev pub has_sent : TileState → Dir → Bool
has_sent t Right = t.right
has_sent t Bottom = t.bottom
has_sent t Corner = t.corner

-- whether an edge of a tile was sent
abbrev pub sent : CoreState → Place → Dir → Bool
sent core p d = has_sent (tile_at core p) d

-- An edge: the tile that it comes from, and its kind.
pub record Edge : Type 0 where
  pub from : Place
  pub dir : Dir

-- an edge, where it was sent
abbrev pub where_sent : Bool → Place → Dir → List Edge
where_sent true p d = record { from = p; dir = d } ∷ []
where_sent false p d = []

-- the edges that a tile has sent: right, bottom, corner
abbrev pub sent_of : CoreState → Place → List Edge
sent_of core p =
    where_sent (sent core p Right) p Right ++ (where_sent (sent core p Bottom) p Bottom ++ where_sent (sent core p Corner) p Corner)

-- the edges sent by a number of tiles of band j, from column c on
abbrev pub sent_in_band : CoreState → ℕ → ℕ → ℕ → List Edge
sent_in_band core j c zero = []
sent_in_band core j c (suc n) = sent_of core (record { c = c; j = j }) ++ sent_in_band core j (c + 1) n

-- the edges sent by the tiles of a number of bands, from band j on
abbrev pub sent_in_bands : CoreState → ℕ → ℕ → List Edge
sent_in_bands core j zero = []
sent_in_bands core j (suc n) = sent_in_band core j 0 (columns_of core.shape) ++ sent_in_bands core (j + 1) n

-- The edges that were sent: by the band of the tile that they come from, its column, and then right, bottom, corner.
abbrev pub sent_edges : CoreState → List Edge
sent_edges core = sent_in_bands core 0 (bands_of core.shape)

-- the edge is in the list
abbrev pub IsListed : Edge → List Edge → Type 0
IsListed x [] = ⊥
IsListed x (y ∷ ys) = (x ≡ y) ⊎ IsListed x ys

-- no edge is in the list twice
abbrev pub AreOnce : List Edge → Type 0
AreOnce [] = Unit {0}
AreOnce (x ∷ xs) = (¬ IsListed x xs) × AreOnce xs
