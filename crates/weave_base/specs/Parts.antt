-- What a write that fails has appended.
use Rattle.std.specs.Prelude.{ℕ, ◌<◌, List, length, take, Option}
use Rattle.std.specs.Io.KnownBytes.{Appends}

-- The known bytes grew by a proper prefix of these bytes.
pub record AppendsPart (old new : Option (List ℕ)) (bytes : List ℕ) : Type 0 where
  pub len : ℕ
  pub proper : len < length bytes
  pub is : Appends old new (take len bytes)
