-- What a tile gives for what it is handed.
use Rattle.std.specs.Prelude.{◌≡◌, ◌≢◌, ℕ, ℤ, ◌<◌, List, [], length, slice_index, slice_index_or}
use Rattle.diffusion_kernel.specs.Tables.{table_of}
use Rattle.diffusion_kernel.specs.declared.tables.Kernel.{Kernel}
use Rattle.dot_planes.specs.Tables.{AmountTable}
use Rattle.tile_lanes.specs.Done.{DiffusesInk, plane_of}
use Rattle.tile_shape.specs.declared.tiles.Place.{Place}
use Rattle.tile_border.specs.Inks.{errors_of}

-- The edges and the dots of a tile, ink by ink.
pub record Border : Type 0 where
  pub side : List (List ℤ)
  pub bottom : List (List ℤ)
  pub corner : List (List ℤ)
  pub bits : List (List ℕ)

-- they have this number of inks
pub record HasInks (inks : ℕ) (b : Border) : Type 0 where
  pub side : length b.side ≡ inks
  pub bottom : length b.bottom ≡ inks
  pub corner : length b.corner ≡ inks
  pub bits : length b.bits ≡ inks

-- each of the lists has this length
abbrev pub AllLong : {A : Type 0} → ℕ → List (List A) → Type 0
AllLong len xs = (i : ℕ) → i < length xs → length (slice_index_or xs i []) ≡ len

-- each value of each of the lists is below 256
abbrev pub AllBytes : List (List ℕ) → Type 0
AllBytes xs = (i : ℕ) → i < length xs → (n : ℕ) → slice_index (slice_index_or xs i []) n < 256

-- in each ink the edges have 192, 128 and 12 errors, and the dots 256 bytes
pub record IsWhole (b : Border) : Type 0 where
  pub side : AllLong 192 b.side
  pub bottom : AllLong 128 b.bottom
  pub corner : AllLong 12 b.corner
  pub bits : AllLong 256 b.bits
  pub bytes : AllBytes b.bits

-- the same of one ink
pub record IsWholeInk (i : ℕ) (b : Border) : Type 0 where
  pub side : length (errors_of b.side i) ≡ 192
  pub bottom : length (errors_of b.bottom i) ≡ 128
  pub corner : length (errors_of b.corner i) ≡ 12
  pub bits : length (slice_index_or {A = List ℕ} b.bits i []) ≡ 256
  pub bytes : (n : ℕ) → slice_index (slice_index_or b.bits i []) n < 256

-- one ink is diffused
abbrev pub Works : Kernel → AmountTable → Place → ℕ → Border → Border → Type 0
Works k rows p i old new =
    DiffusesInk (table_of k) (plane_of rows i) p (errors_of old.side i) (errors_of old.bottom i) (errors_of old.corner i)
    (errors_of new.side i) (errors_of new.bottom i) (errors_of new.corner i) (slice_index_or new.bits i [])

-- one ink is the same in both
pub record SameInk (i : ℕ) (old new : Border) : Type 0 where
  pub side : errors_of new.side i ≡ errors_of old.side i
  pub bottom : errors_of new.bottom i ≡ errors_of old.bottom i
  pub corner : errors_of new.corner i ≡ errors_of old.corner i
  pub bits : slice_index_or {A = List ℕ} new.bits i [] ≡ slice_index_or old.bits i []

-- One ink is diffused, and all others stay.
pub record WorksInk (k : Kernel) (rows : AmountTable) (p : Place) (i : ℕ) (old new : Border) : Type 0 where
  pub works : Works k rows p i old new
  pub others : (j : ℕ) → j ≢ i → SameInk j old new
  pub inks : (n : ℕ) → HasInks n old → HasInks n new
