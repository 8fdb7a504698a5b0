-- The text that a reader of a source still has before it.
use Rattle.std.specs.Prelude.{◌≡◌, ℕ, List, ◌++◌, length, Option}
use Rattle.std.specs.Io.KnownBytes.{Consumes, prepend_known}

-- the bytes that were taken and not used, and then what the source has left; `None` where it does not say
abbrev pub text_behind : List ℕ → Option (List ℕ) → Option (List ℕ)
text_behind unread left = prepend_known unread left

-- A read added `count` bytes to those that are not used.
pub record Grows (old new : List ℕ) (count : ℕ) : Type 0 where
  pub chunk : List ℕ
  pub is : new ≡ old ++ chunk
  pub long : length chunk ≡ count

-- Some bytes of a text were used, or none.
pub record UsesSome (before now : Option (List ℕ)) : Type 0 where
  pub bytes : List ℕ
  pub is : Consumes before now bytes
