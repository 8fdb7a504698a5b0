-- The commands at the beginning of a job, and how the job goes on.
use Rattle.std.specs.Prelude.{◌≡◌, ℕ, List, ◌++◌, length, take, Option, None, Some, IfSome}
use Rattle.std.specs.Io.KnownBytes.{Consumes, IsAtEnd}
use Rattle.escp2_definitions.specs.declared.stops.JobStop.{JobStop}
use Rattle.escp2_definitions.specs.declared.stops.JobStop.TheVariants as job_stop
use Rattle.escp2_definitions.specs.Commands.{CommandList, Entry, commands, commands_from}
use Rattle.escp2_definitions.specs.JobEnds.{Stopped, job_end, list_stop, stopped}

-- these commands, and then those of a list
abbrev pub with_entries : List Entry → CommandList → CommandList
with_entries entries job = record { entries = entries ++ job.entries; end = job.end }

-- the commands of bytes of which the first is at this offset
abbrev pub commands_behind : ℕ → List ℕ → CommandList
commands_behind at bytes = commands_from (length bytes) at bytes

-- The bytes are these whole commands, whatever follows.
pub record AreCommands (bytes : List ℕ) (entries : List Entry) : Type 0 where
  pub are : (rest : List ℕ) → commands (bytes ++ rest) ≡ with_entries entries (commands_behind (length bytes) rest)

-- These are the first commands of the bytes that were taken of a job, which has at most `most` bytes.
pub record TakesCommands (most : ℕ) (before now : Option (List ℕ)) (entries : List Entry) : Type 0 where
  pub bytes : List ℕ
  pub taken : Consumes before now bytes
  pub others : List Entry
  pub are : (commands (take most bytes)).entries ≡ entries ++ others

-- The commands of a job's bytes are these, and it stops so, what the machine refuses left aside.
pub record Ends (most : ℕ) (bytes : List ℕ) (entries : List Entry) (stop : Option Stopped) : Type 0 where
  pub are : (commands (take most bytes)).entries ≡ entries
  pub stop_is : list_stop (commands (take most bytes)).end most (length bytes) ≡ stop

-- Where a job stops, more bytes could mend it: nothing stops it, or it ends inside a command.
abbrev pub JobMayGoOn : Option Stopped → Type 0
JobMayGoOn None = Unit {0}
JobMayGoOn (Some stop) = stop.why ≡ job_stop.Cut

-- These are all commands of the bytes that were taken of a job, which more bytes could mend.
pub record TakesAllCommands (most : ℕ) (before now : Option (List ℕ)) (entries : List Entry) : Type 0 where
  pub bytes : List ℕ
  pub taken : Consumes before now bytes
  pub are : (commands (take most bytes)).entries ≡ entries
  pub end : JobMayGoOn (job_end bytes most None)

-- The job was taken whole, and its commands are these.
pub record TakesJob (most : ℕ) (before now : Option (List ℕ)) (entries : List Entry) : Type 0 where
  pub bytes : List ℕ
  pub taken : Consumes before now bytes
  pub end : IsAtEnd now
  pub ends : Ends most bytes entries None

-- the job, where the source says what it holds, has these commands, and is refused at this offset
abbrev pub MeetsStop : ℕ → Option (List ℕ) → List Entry → ℕ → JobStop → Type 0
MeetsStop most before entries offset cause = IfSome before (λ bytes. Ends most bytes entries (stopped offset cause))
