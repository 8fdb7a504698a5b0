-- How the listing of a job ends.
use Rattle.std.specs.Prelude.{ℕ, List, Result, Ok, Err}
use Rattle.std.specs.Io.KnownBytes.{Appends}
use Rattle.escp2_definitions.specs.declared.stops.JobStop.{JobStop}
use Rattle.escp2_definitions.specs.Commands.{Entry}
use Rattle.escp2_reader.specs.Jobs.{MeetsStop, TakesAllCommands, TakesCommands, TakesJob}
use Rattle.job_lister.specs.Listing.{listing}
use Rattle.job_lister.specs.declared.lister.ListStop.{ListStop}
use Rattle.job_lister.specs.declared.lister.ListStop.TheVariants as stop
use Rattle.buffered_bytes.specs.Outside.{HasRisen, Outside}
use Rattle.weave_base.specs.Parts.{AppendsPart}

-- The job was taken whole, and all its commands are listed.
pub record ListsAll (most : ℕ) (input out : Outside) : Type 0 where
  pub entries : List Entry
  pub takes : TakesJob most input.before input.now entries
  pub writes : Appends out.before out.now (listing entries)

-- The job, if the source reports its bytes, is refused at this offset; the commands before that are listed.
pub record ListsToStop (most : ℕ) (input out : Outside) (offset : ℕ) (cause : JobStop) : Type 0 where
  pub entries : List Entry
  pub meets : MeetsStop most input.before entries offset cause
  pub writes : Appends out.before out.now (listing entries)

-- All commands of what was taken are listed. These bytes are valid so far, though they may be truncated.
pub record ListsTaken (most : ℕ) (input out : Outside) : Type 0 where
  pub entries : List Entry
  pub takes : TakesAllCommands most input.before input.now entries
  pub writes : Appends out.before out.now (listing entries)

-- A proper prefix of the listing of some first commands of what was taken was written.
pub record ListsPart (most : ℕ) (input out : Outside) : Type 0 where
  pub entries : List Entry
  pub takes : TakesCommands most input.before input.now entries
  pub writes : AppendsPart out.before out.now (listing entries)

-- how the listing of a job of at most `most` bytes ends
abbrev pub ListResult : ℕ → Outside → Outside → Result (Unit {0}) ListStop → Type 0
ListResult most input out (Ok u) = ListsAll most input out
ListResult most input out (Err (stop.Job offset cause)) = ListsToStop most input out offset cause
ListResult most input out (Err stop.Read) = HasRisen input × ListsTaken most input out
ListResult most input out (Err stop.Write) = HasRisen out × ListsPart most input out
ListResult most input out (Err stop.Memory) = ListsTaken most input out
