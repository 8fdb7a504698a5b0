-- The dots of a band of tiles, put into planes.
use Rattle.std.specs.Prelude.{◌≡◌, ◌≢◌, ◌⊎◌, ℕ, ◌+◌, ◌*◌, ◌<◌, ◌≤◌, false, List, [], slice_index_or}
use Rattle.dot_planes.specs.Tables.{DotTable, HasSizeOf, dot, row_dot}
use Rattle.dot_planes.specs.Tiles.{IsTilePixel, tile_dot}
use Rattle.dot_planes.specs.declared.tiles.TileDots.{TileDots}

-- Every ink has the pixels of band j, on or off, as its tiles have them, and all rows outside of the band are
-- unchanged. The tiles are listed by column, in a slab of `height` rows that begins at row `first`.
pub record PutsBand (old new : DotTable) (first height j : ℕ) (tiles : List TileDots) : Type 0 where
  pub size : HasSizeOf old new
  pub pixels : (i row offset c y x : ℕ) (d : TileDots) → i < old.inks
      → IsTilePixel old first height (record { c = c; j = j }) row offset y x
      → dot new i y x ≡ tile_dot (slice_index_or tiles c d).bits i row offset
  pub others : (i y x : ℕ) → y < old.rows → (y < first + 32 * j) ⊎ ((first + 32 * j + 32 ≤ y) ⊎ (first + height ≤ y))
      → dot new i y x ≡ dot old i y x

-- An ink has the first `rows` rows of a band, which begins at row `first`, and all others are unchanged.
pub record PutsBandInk (old new : DotTable) (first rows i : ℕ) (tiles : List TileDots) : Type 0 where
  pub size : HasSizeOf old new
  pub pixels : (row offset c x : ℕ) (d : TileDots) → row < rows → offset < 64 → x < old.width → x + 2 * row ≡ 64 * c + offset
      → dot new i (first + row) x ≡ tile_dot (slice_index_or tiles c d).bits i row offset
  pub others : (k y x : ℕ) → y < old.rows → (k ≢ i) ⊎ ((y < first) ⊎ (first + rows ≤ y)) → dot new k y x ≡ dot old k y x

-- Row y of an ink has the dots of row r of a band, whose eight bytes of each tile stand side by side, and all other
-- rows are unchanged.
pub record PutsBandRow (old new : DotTable) (i y r : ℕ) (wide : List ℕ) : Type 0 where
  pub size : HasSizeOf old new
  pub pixels : (x : ℕ) → x < old.width → dot new i y x ≡ row_dot wide (x + 2 * r)
  pub others : (k m x : ℕ) → m < old.rows → (k ≢ i) ⊎ (m ≢ y) → dot new k m x ≡ dot old k m x

-- the bytes have the dots of row r of a tile, 64 of them
abbrev pub HasTileRow : List ℕ → TileDots → ℕ → ℕ → Type 0
HasTileRow bytes tile i r = (offset : ℕ) → offset < 64 → row_dot bytes offset ≡ tile_dot tile.bits i r offset

-- row r of each of the first n tiles, side by side
pub record HasTileRows (wide : List ℕ) (tiles : List TileDots) (i r n : ℕ) : Type 0 where
  pub dots : (c offset : ℕ) (d : TileDots) → c < n → offset < 64
      → row_dot wide (64 * c + offset) ≡ tile_dot (slice_index_or tiles c d).bits i r offset

-- None of the first n tiles has a dot of an ink.
pub record HaveNoDots (tiles : List TileDots) (i n : ℕ) : Type 0 where
  pub none : (c k : ℕ) (d : TileDots) → c < n → row_dot (slice_index_or (slice_index_or tiles c d).bits i []) k ≡ false

-- An ink has no dots in `rows` rows from row `first` on, and all other rows are unchanged.
pub record ClearsRows (old new : DotTable) (i first rows : ℕ) : Type 0 where
  pub size : HasSizeOf old new
  pub none : (y x : ℕ) → first ≤ y → y < first + rows → x < old.width → dot new i y x ≡ false
  pub others : (k y x : ℕ) → y < old.rows → (k ≢ i) ⊎ ((y < first) ⊎ (first + rows ≤ y)) → dot new k y x ≡ dot old k y x
