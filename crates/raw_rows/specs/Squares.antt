-- Sixteen vectors of sixteen lanes, and the columns of 32 rows of bytes.
use Rattle.std.specs.Prelude.{ℕ, ◌≡◌, ◌≢◌, ◌+◌, ◌*◌, ◌<◌, ◌≤◌, List, [], length, slice_index, slice_index_or}

-- lane m of vector i
abbrev pub lane : List (List ℕ) → ℕ → ℕ → ℕ
lane xs i m = slice_index (slice_index_or xs i []) m

-- sixteen vectors, of sixteen lanes each
pub record IsSquare (xs : List (List ℕ)) : Type 0 where
  pub vectors : length xs ≡ 16
  pub lanes : (i : ℕ) → i < 16 → length (slice_index_or xs i []) ≡ 16

-- byte k of row r, where `starts` has the places at which 32 rows begin
abbrev pub byte_of : List ℕ → List ℕ → ℕ → ℕ → ℕ
byte_of bytes starts r k = slice_index bytes (slice_index starts r + k)

-- each row has so many bytes at least
pub record HaveBytes (bytes starts : List ℕ) (many : ℕ) : Type 0 where
  pub row : (r : ℕ) → r < 32 → slice_index starts r + many ≤ length bytes

-- The first n vectors are rows from row `first` on, each with its sixteen bytes from byte `from` on.
pub record HasRows (bytes starts : List ℕ) (first from n : ℕ) (xs : List (List ℕ)) : Type 0 where
  pub at : (i m : ℕ) → i < n → m < 16 → lane xs i m ≡ byte_of bytes starts (first + i) (from + m)

-- The first n vectors stand in columns of 32 bytes, from column `from` on and in each from row `first` on.
pub record IsPutInto (xs : List (List ℕ)) (first from n : ℕ) (old new : List ℕ) : Type 0 where
  pub there : (i m : ℕ) → i < n → m < 16 → slice_index new (32 * (from + i) + (first + m)) ≡ lane xs i m
  pub kept : (at : ℕ) → ((i m : ℕ) → i < n → m < 16 → at ≢ 32 * (from + i) + (first + m))
      → slice_index new at ≡ slice_index old at

-- Sixteen rows from row `first` on stand in sixteen columns from column `from` on. The columns before these are as they
-- were, and so are the rows before these.
pub record HasHalf (bytes starts : List ℕ) (first from : ℕ) (old new : List ℕ) : Type 0 where
  pub there : (k r : ℕ) → from ≤ k → k < from + 16 → first ≤ r → r < first + 16
      → slice_index new (32 * k + r) ≡ byte_of bytes starts r k
  pub left : (k r : ℕ) → r < 32 → k < from → slice_index new (32 * k + r) ≡ slice_index old (32 * k + r)
  pub above : (k r : ℕ) → r < first → slice_index new (32 * k + r) ≡ slice_index old (32 * k + r)

-- The first `many` bytes of the rows stand by columns: byte k of row r at 32 k + r.
pub record HasColumns (bytes starts : List ℕ) (many : ℕ) (columns : List ℕ) : Type 0 where
  pub at : (k r : ℕ) → k < many → r < 32 → slice_index columns (32 * k + r) ≡ byte_of bytes starts r k
