-- The text that a feed of commands has before it, and what its calls take of it.
use Rattle.std.specs.Prelude.{◌≡◌, ℕ, ◌+◌, ◌-◌, ◌≤◌, false, List, [], ◌++◌, length, Option, IfSome}
use Rattle.std.specs.Io.KnownBytes.{Consumes, IsAtEnd, Keeps}
use Rattle.escp2_definitions.specs.declared.stops.JobCause.{JobCause}
use Rattle.escp2_definitions.specs.declared.stops.JobStop.{JobStop}
use Rattle.escp2_definitions.specs.declared.stops.JobStop.TheVariants as job
use Rattle.escp2_definitions.specs.Commands.{Spells, command_at}
use Rattle.escp2_definitions.specs.Commands.Heard.{One, Part, Wrong}
use Rattle.escp2_reader.specs.Reading.{StandsFor, is_failed_of, rows_of}
use Rattle.escp2_reader.specs.declared.feed.FeedStop.{FeedStop}
use Rattle.escp2_reader.specs.declared.feed.FeedStop.TheVariants as stop
use Rattle.escp2_reader.specs.declared.feed.JobFeed.{JobFeed}
use Rattle.escp2_reader.specs.declared.feed.PlacedCommand.{PlacedCommand}
use Rattle.buffered_bytes.specs.Text.{text_behind}
use Rattle.weave_base.specs.Causes.{Rose}

-- the bytes that were taken of the source and are not used
abbrev pub unread_of : JobFeed → List ℕ
unread_of feed = feed.unread

-- the offset of the byte that is used next
abbrev pub at_of : JobFeed → ℕ
at_of feed = feed.fed

-- the bytes that are not used, and then what the source has left; `None` where it does not say
abbrev pub text_of : JobFeed → Option (List ℕ) → Option (List ℕ)
text_of feed left = text_behind (unread_of feed) left

-- the most bytes of a job
abbrev pub most_of : JobFeed → ℕ
most_of feed = feed.most

-- the rows of the raster that was just answered
abbrev pub heard_of : JobFeed → List ℕ
heard_of feed = rows_of feed.reader

-- The feed is between two commands.
pub record IsBetween (feed : JobFeed) : Type 0 where
  pub stands : StandsFor feed.reader []
  pub is_open : is_failed_of feed.reader ≡ false

-- The next bytes were this command, which ends within the job's greatest length, and were taken.
pub record TakesCommand (old new : JobFeed) (before now : Option (List ℕ)) (placed : PlacedCommand) : Type 0 where
  pub bytes : List ℕ
  pub taken : Consumes before now bytes
  pub at : placed.at ≡ at_of old
  pub whole : (rest : List ℕ) → command_at (bytes ++ rest) ≡ One placed.command (heard_of new) (length bytes)
  pub spelled : Spells placed.command (heard_of new) bytes
  pub behind : at_of new ≡ at_of old + length bytes
  pub within : at_of new ≤ most_of new
  pub most : most_of new ≡ most_of old
  pub between : IsBetween new

-- the text is at its end
abbrev pub HasEnded : Option (List ℕ) → Option (List ℕ) → Type 0
HasEnded before now = Keeps before now × IsAtEnd now

-- The next bytes, which are a part of a command, were taken.
pub record TakesPart (old : JobFeed) (before now : Option (List ℕ)) (bytes : List ℕ) : Type 0 where
  pub taken : Consumes before now bytes
  pub part : command_at bytes ≡ Part
  pub within : at_of old + length bytes ≤ most_of old

-- The next bytes are no command, whatever follows: the byte at this offset is refused.
pub record MeetsFault (old : JobFeed) (before now : Option (List ℕ)) (offset : ℕ) (cause : JobCause) : Type 0 where
  pub bytes : List ℕ
  pub taken : Consumes before now bytes
  pub behind : at_of old ≤ offset
  pub wrong : (rest : List ℕ) → command_at (bytes ++ rest) ≡ Wrong (offset - at_of old) cause
  pub within : at_of old + length bytes ≤ most_of old

-- The job goes on past its greatest length, which is reached before the next command ends.
pub record IsTooLong (old : JobFeed) (before now : Option (List ℕ)) (offset : ℕ) : Type 0 where
  pub bytes : List ℕ
  pub takes : TakesPart old before now bytes
  pub full : at_of old + length bytes ≡ most_of old
  pub more : IfSome now (λ text. text ≡ [] → ⊥)
  pub offset_is : offset ≡ most_of old

-- The job ends inside a command, whose first byte is at this offset.
pub record IsCut (old : JobFeed) (before now : Option (List ℕ)) (offset : ℕ) : Type 0 where
  pub bytes : List ℕ
  pub takes : TakesPart old before now bytes
  pub some : bytes ≡ [] → ⊥
  pub end : IsAtEnd now
  pub offset_is : offset ≡ at_of old

-- why the job is refused at an offset
abbrev pub IsRefused : JobFeed → Option (List ℕ) → Option (List ℕ) → ℕ → JobStop → Type 0
IsRefused old before now offset (job.Reader cause) = MeetsFault old before now offset cause
IsRefused old before now offset job.Cut = IsCut old before now offset
IsRefused old before now offset (job.Machine fault) = ⊥
IsRefused old before now offset job.TooLong = IsTooLong old before now offset

-- A read failed: the count of faults rose, and what was taken is a part of a command.
pub record HasFailed (old : JobFeed) (before now : Option (List ℕ)) (faults_before faults_now : ℕ) : Type 0 where
  pub rose : Rose faults_before faults_now
  pub bytes : List ℕ
  pub takes : TakesPart old before now bytes

-- why no further command is answered
abbrev pub IsStopped : JobFeed → Option (List ℕ) → Option (List ℕ) → ℕ → ℕ → FeedStop → Type 0
IsStopped old before now faults_before faults_now (stop.Job offset cause) = IsRefused old before now offset cause
IsStopped old before now faults_before faults_now stop.Read = HasFailed old before now faults_before faults_now
