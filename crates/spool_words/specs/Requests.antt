-- What a request keeps to.
use Rattle.std.specs.Prelude.{◌≡◌, ℕ, ◌≤◌, List, length}
use Rattle.std.specs.List.{AllByRecursion}
use Rattle.separation_definitions.specs.Grain.{most_grain}
use Rattle.spool_words.specs.Meaning.{names_of}
use Rattle.spool_words.specs.declared.reading.SpoolRequest.{SpoolRequest}

-- the name of a file has 1 to 255 bytes
pub record IsName (name : List ℕ) : Type 0 where
  pub some : 1 ≤ length name
  pub most : length name ≤ 255

-- a sender has 1 to 64 names
pub record AreNames (names : List (List ℕ)) : Type 0 where
  pub some : 1 ≤ length names
  pub most : length names ≤ 64
  pub each : AllByRecursion IsName names

-- the numbers of a request, and the names that its words list
pub record IsWithinBounds (words : List (List ℕ)) (request : SpoolRequest) : Type 0 where
  pub most_grain : request.grain ≤ most_grain
  pub some_workers : 1 ≤ request.workers
  pub most_workers : request.workers ≤ 64
  pub some_senders : 1 ≤ request.senders
  pub most_senders : request.senders ≤ 8
  pub senders : length (names_of words) ≡ request.senders
  pub names : AllByRecursion AreNames (names_of words)
