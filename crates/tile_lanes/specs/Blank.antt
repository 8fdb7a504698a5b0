-- Tiles of an ink with nothing to diffuse.
use Rattle.std.specs.Prelude.{ℕ, ℤ, pos, ◌≡◌, ◌+◌, ◌*◌, ◌<◌, List, slice_index, slice_index_or}

-- four offsets of a tile, the first of them offset 4 n, have no amount
abbrev pub AreBlankOffsets : List ℕ → ℕ → Type 0
AreBlankOffsets tile n = (i : ℕ) → i < 128 → slice_index tile (128 * n + i) ≡ 0

-- all errors of the list are 0
abbrev pub AreZero : List ℤ → Type 0
AreZero errors = (i : ℕ) → slice_index_or errors i (pos 0) ≡ pos 0

-- a tile has no amount, also where it has no pixel
abbrev pub IsBlank : List ℕ → Type 0
IsBlank tile = (m : ℕ) → m < 2048 → slice_index tile m ≡ 0

-- All errors that a tile is handed are 0.
pub record HandsNothing (left above corner : List ℤ) : Type 0 where
  pub no_left : AreZero left
  pub no_above : AreZero above
  pub no_corner : AreZero corner
