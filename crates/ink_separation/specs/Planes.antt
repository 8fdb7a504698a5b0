-- Values of the pixels of a tile, by offsets: that of row r at offset o stands at 32 o + r.
use Rattle.std.specs.Prelude.{◌≡◌, ℕ, ◌+◌, ◌*◌, ◌<◌, List, slice_index}

-- The first n offsets have their values.
pub record HasOffsets (value : ℕ → ℕ → ℕ) (n : ℕ) (plane : List ℕ) : Type 0 where
  pub is : (o r : ℕ) → o < n → r < 32 → slice_index plane (32 * o + r) ≡ value o r

-- Offset o has the 32 values of a column, and all offsets before it are unchanged.
pub record PutsColumn (column : List ℕ) (o : ℕ) (old new : List ℕ) : Type 0 where
  pub is : (r : ℕ) → r < 32 → slice_index new (32 * o + r) ≡ slice_index column r
  pub before : (k : ℕ) → k < 32 * o → slice_index new k ≡ slice_index old k
