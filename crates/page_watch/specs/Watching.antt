-- What a watch was fed of a job, and the lines of its events (this project's own).
use Rattle.std.specs.Prelude.{◌≡◌, ℕ, ◌+◌, ◌-◌, Bool, true, false, if◌then◌else◌, List, [], ◌∷◌, ◌++◌, length, take}
use Rattle.std.specs.Prelude.{Option, None, Some}
use Rattle.std.specs.List.{All, flat_map}
use Rattle.base_definitions.specs.Counting.{count_from}
use Rattle.escp2_definitions.specs.declared.command.Command.{Command}
use Rattle.escp2_definitions.specs.declared.command.Command.TheVariants as c
use Rattle.escp2_definitions.specs.declared.stops.JobCause.{JobCause}
use Rattle.escp2_definitions.specs.Commands.{Entry, command_at, commands}
use Rattle.escp2_definitions.specs.Commands.Heard.{Part}
use Rattle.escp2_definitions.specs.Commands.ListEnd.{Fault}
use Rattle.escp2_reader.specs.Reading.{StandsFor, fed_of, is_failed_of}
use Rattle.finish_definitions.specs.Finished.{whole_commands}
use Rattle.page_tally.specs.Lines.{lines_from, page_lines, progress_line, tenths}
use Rattle.page_tally.specs.Tallies.{no_tally, tally_from}
use Rattle.page_tally.specs.declared.lines.Telling.{Telling}
use Rattle.page_tally.specs.declared.tally.Tally.{Tally}
use Rattle.page_watch.specs.declared.watch.Event.{Event}
use Rattle.page_watch.specs.declared.watch.PageWatch.{PageWatch}
use Rattle.page_watch.specs.declared.watch.SeenState.{SeenState}
use Rattle.page_watch.specs.declared.watch.SeenState.TheVariants as seen

-- ---- what was fed

-- what is counted of the whole commands of bytes
abbrev pub tally_behind : List ℕ → Tally
tally_behind bytes = tally_from no_tally (commands bytes).entries

-- how many bytes were fed
abbrev pub fed_to : PageWatch → ℕ
fed_to watch = fed_of watch.reader

-- what was counted
abbrev pub tally_of : PageWatch → Tally
tally_of watch = watch.tally

-- These bytes of the job were fed: the tally is that of their commands, and the reader stands for the bytes behind
-- their whole commands, which are a part of a command.
pub record Watched (watch : PageWatch) (sofar : List ℕ) : Type 0 where
  pub part : List ℕ
  pub behind : sofar ≡ whole_commands sofar ++ part
  pub part_is : command_at part ≡ Part
  pub tally_is : tally_of watch ≡ tally_behind sofar
  pub fed_is : fed_to watch ≡ length sofar
  pub stands : StandsFor watch.reader part
  pub is_open : is_failed_of watch.reader ≡ false

-- some bytes of a job were fed, without a fault
abbrev pub IsWatching : PageWatch → Type 0
IsWatching watch = (sofar : List ℕ) × Watched watch sofar

-- ---- lines

-- the lines of the whole commands of bytes
abbrev pub told : Telling → List ℕ → List ℕ
told telling bytes = lines_from telling no_tally (commands bytes).entries

-- the lines of a command, by the tallies before and after it
abbrev pub event_lines : Telling → Tally → Tally → Command → List ℕ
event_lines telling before after command =
    (if telling.progress then flat_map (progress_line before) (count_from (tenths before + 1) (tenths after - tenths before)) else [])
    ++ (if telling.pages then page_lines before command else [])

-- the lines that are due where a call stops, by the tally then
abbrev pub seen_lines : Telling → Tally → SeenState → List ℕ
seen_lines telling after seen.More = []
seen_lines telling after (seen.Due event) = event_lines telling event.before after event.command
seen_lines telling after (seen.Fault offset cause) = []

-- ---- events

-- Whether a command is of interest: a form feed, a reset, and with a telling of progress one that sets margins or moves
-- the head down.
abbrev pub is_due : Telling → Command → Bool
is_due telling c.Init = true
is_due telling c.Eject = true
is_due telling (c.Margins top bottom) = telling.progress
is_due telling (c.DownTo n) = telling.progress
is_due telling (c.DownBy n) = telling.progress
is_due telling other = false

-- no command of these is of interest
abbrev pub AllQuiet : Telling → List Entry → Type 0
AllQuiet telling entries = All (λ (entry : Entry). is_due telling entry.command ≡ false) entries

-- The later bytes have further commands, none of which is of interest.
pub record GrowsQuietly (telling : Telling) (before after : List ℕ) : Type 0 where
  pub between : List Entry
  pub grow : (commands after).entries ≡ (commands before).entries ++ between
  pub quiet : AllQuiet telling between

-- The later bytes end with the command of an event, which is of interest. None before it is.
pub record EndsWith (event : Event) (telling : Telling) (before after : List ℕ) : Type 0 where
  pub whole : whole_commands after ≡ after
  pub between : List Entry
  pub last : Entry
  pub grow : (commands after).entries ≡ ((commands before).entries ++ between) ++ last ∷ []
  pub quiet : AllQuiet telling between
  pub due : is_due telling event.command ≡ true
  pub command_is : event.command ≡ last.command
  pub before_is : event.before ≡ tally_from no_tally ((commands before).entries ++ between)

-- The command table refuses what is at this offset, behind the whole commands of the bytes, whatever follows. The tally
-- is theirs.
pub record HasFault (watch : PageWatch) (bytes : List ℕ) (offset : ℕ) (cause : JobCause) : Type 0 where
  pub fault : (commands bytes).end ≡ Fault offset cause
  pub stays : (rest : List ℕ) → commands (bytes ++ rest) ≡ commands bytes
  pub whole_stays : (rest : List ℕ) → whole_commands (bytes ++ rest) ≡ whole_commands bytes
  pub tally_is : tally_of watch ≡ tally_behind bytes

-- ---- answers

-- where the last command that became whole in a piece ends, behind these bytes: in it none did, or the whole commands
-- are now all bytes up to that end
abbrev pub EndsWhole : Option ℕ → List ℕ → List ℕ → Type 0
EndsWhole None sofar piece = whole_commands (sofar ++ piece) ≡ whole_commands sofar
EndsWhole (Some end) sofar piece = whole_commands (sofar ++ piece) ≡ sofar ++ take end piece

-- a fact where the piece ends
abbrev pub OnMore : SeenState → Type 0 → Type 0
OnMore seen.More P = P
OnMore (seen.Due event) P = Unit {0}
OnMore (seen.Fault offset cause) P = Unit {0}

-- what an answer means for the bytes that were fed before and after
abbrev pub IsSeen : SeenState → Telling → PageWatch → List ℕ → List ℕ → Type 0
IsSeen seen.More telling watch before after = Watched watch after × GrowsQuietly telling before after
IsSeen (seen.Due event) telling watch before after = Watched watch after × EndsWith event telling before after
IsSeen (seen.Fault offset cause) telling watch before after =
    HasFault watch after offset cause × GrowsQuietly telling before after
