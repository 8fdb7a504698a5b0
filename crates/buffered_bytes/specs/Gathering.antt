-- Bytes that are gathered before they are written.
use Rattle.std.specs.Prelude.{◌≡◌, ℕ, List, ◌++◌, take, Option}
use Rattle.std.specs.Io.KnownBytes.{Appends}
use Rattle.buffered_bytes.specs.declared.gathered.Gathered.{Gathered}

-- the bytes that are gathered
abbrev pub gathered : Gathered → List ℕ
gathered g = take g.len g.bytes

-- A sink took a prefix of the gathered bytes, and the rest is gathered.
pub record Passes (old new : Option (List ℕ)) (before after : List ℕ) : Type 0 where
  pub sent : List ℕ
  pub appends : Appends old new sent
  pub is : before ≡ sent ++ after

-- Of the gathered bytes and `bytes` after them a sink took a prefix, and the rest is gathered.
pub record Writes (old new : Option (List ℕ)) (before after bytes : List ℕ) : Type 0 where
  pub sent : List ℕ
  pub appends : Appends old new sent
  pub is : before ++ bytes ≡ sent ++ after
