-- A piece of a job that is fed to the reader.
use Rattle.std.specs.Prelude.{◌≡◌, ℕ, ◌+◌, ◌≤◌, List, ◌++◌, length}
use Rattle.escp2_reader.specs.declared.reader.HeardState.{HeardState}
use Rattle.escp2_reader.specs.Reading.{IsHeard, StandsFor, begin_of, is_failed_of, shows_fault}
use Rattle.escp2_reader.specs.declared.feed.JobFeed.{JobFeed}

-- A prefix of the unread bytes was used by the reader, one byte at least, and this is its answer.
pub record FeedsSome (old new : JobFeed) (state : HeardState) : Type 0 where
  pub bytes : List ℕ
  pub some : 1 ≤ length bytes
  pub is : old.unread ≡ bytes ++ new.unread
  pub fed : new.fed ≡ old.fed + length bytes
  pub failed : is_failed_of new.reader ≡ shows_fault state
  pub heard : (sofar : List ℕ) → StandsFor old.reader sofar → IsHeard state (begin_of old.reader) new.reader (sofar ++ bytes)
