-- How a job is passed on, from one moment of a run to another.
use Rattle.std.specs.Prelude.{◌≡◌, ℕ, ◌≤◌, ◌⊎◌, List, [], ◌++◌, length, take, Option, None, Some, IsSome, Result, Ok, Err}
use Rattle.std.specs.Prelude.{Bool, true, false}
use Rattle.std.specs.Io.KnownBytes.{Consumes, IsAtEnd}
use Rattle.buffered_bytes.specs.Outside.{HasRisen, Outside}
use Rattle.escp2_definitions.specs.declared.command.Command.{Command}
use Rattle.escp2_definitions.specs.declared.command.Command.TheVariants as c
use Rattle.escp2_definitions.specs.declared.stops.JobStop.{JobStop}
use Rattle.escp2_definitions.specs.declared.stops.JobStop.TheVariants as job_stop
use Rattle.escp2_definitions.specs.Commands.{Entry, commands}
use Rattle.escp2_definitions.specs.JobEnds.{job_end}
use Rattle.escp2_reader.specs.Jobs.{JobMayGoOn}
use Rattle.finish_core.specs.declared.halts.Halt.{Halt}
use Rattle.finish_core.specs.declared.halts.Halt.TheVariants as halt
use Rattle.finish_core.specs.declared.parts.Parts.{Parts}
use Rattle.finish_core.specs.Sides.{Moment, ShelfHas, Tells, err_from, out_from}
use Rattle.finish_definitions.specs.declared.state.PageState.{PageState}
use Rattle.finish_definitions.specs.declared.state.PageState.TheVariants.{Between}
use Rattle.finish_definitions.specs.Finished.{ending_bytes, finished, page_state, whole_commands}
use Rattle.job_finisher.specs.Holding.{held_in}
use Rattle.job_finisher.specs.Outcome.{IsRefused}
use Rattle.job_finisher.specs.Passing.{PassesOn}
use Rattle.page_tally.specs.declared.lines.Telling.{Telling}
use Rattle.page_tally.specs.declared.tally.Tally.{Tally}
use Rattle.page_tally.specs.Lines.{page_number}
use Rattle.page_tally.specs.Tallies.{number_up_to}
use Rattle.page_watch.specs.declared.watch.SeenState.{SeenState}
use Rattle.page_watch.specs.declared.watch.SeenState.TheVariants as seen
use Rattle.page_watch.specs.declared.watch.Event.{Event}
use Rattle.page_watch.specs.Watching.{AllQuiet, EndsWith, Watched, fed_to, seen_lines, tally_behind, tally_of, told}
use Rattle.weave_base.specs.Causes.{Rose}
use Rattle.weave_base.specs.Parts.{AppendsPart}
use Rattle.weave_base.specs.Shelf.{NamedText}

-- the most bytes of a job
abbrev pub most_job : ℕ
most_job = 4611686018427387904

-- the bytes of a job, as far as it may have them
abbrev pub job_of : List ℕ → List ℕ
job_of bytes = take most_job bytes

-- the number of the page in hand, as an answer has it
abbrev pub page_in_hand : Tally → ℕ
page_in_hand t = number_up_to (page_number t)

-- ---- what was passed on

-- The parts took these bytes of a job, without a fault: the bytes in hand are those behind the whole commands.
pub record Reads (parts : Parts) (sofar : List ℕ) : Type 0 where
  pub behind : sofar ≡ whole_commands sofar ++ held_in parts.held
  pub watched : Watched parts.watch sofar

-- the parts took some bytes of a job, without a fault
abbrev pub IsReading : Parts → Type 0
IsReading parts = (sofar : List ℕ) × Reads parts sofar

-- how many bytes the parts took
abbrev pub fed_parts : Parts → ℕ
fed_parts parts = fed_to parts.watch

-- where the job stands in its page
abbrev pub state_in : Parts → PageState
state_in parts = (tally_of parts.watch).state

-- The parts stand behind these bytes, whose commands may have a fault behind them.
pub record Stands (parts : Parts) (bytes : List ℕ) : Type 0 where
  pub state_is : state_in parts ≡ page_state bytes
  pub tally_is : tally_of parts.watch ≡ tally_behind bytes

-- From some bytes of a job to more of them, the output grew by what they made whole, and the error sink by their lines.
pub record GoesOn (telling : Telling) (from to : Moment) (before after : List ℕ) : Type 0 where
  pub passes : PassesOn (out_from from to) before after
  pub lines : List ℕ
  pub grow : told telling after ≡ told telling before ++ lines
  pub tells : Tells (err_from from to) lines

-- ---- why a job is not passed on

-- The next bytes are the commands that some bytes have more than the first ones. At most the last of these commands is
-- of interest.
pub record BringsCommands (telling : Telling) (front next : List ℕ) : Type 0 where
  pub after : List ℕ
  pub whole : whole_commands after ≡ whole_commands front ++ next
  pub between : List Entry
  pub last : List Entry
  pub grow : (commands after).entries ≡ ((commands front).entries ++ between) ++ last
  pub quiet : AllQuiet telling between
  pub few : length last ≤ 1

-- what a write brings behind the first bytes: commands up to the next one of interest, or the end of the page
abbrev pub IsNext : Telling → List ℕ → List ℕ → Type 0
IsNext telling front next = BringsCommands telling front next ⊎ (next ≡ ending_bytes (page_state front))

-- Of the job's bytes the first were passed on and told. They are whole commands, and end between pages.
pub record HaltsBetween (telling : Telling) (from to : Moment) (before full : List ℕ) : Type 0 where
  pub front : List ℕ
  pub rest : List ℕ
  pub split : full ≡ front ++ rest
  pub whole : whole_commands front ≡ front
  pub between : page_state front ≡ Between
  pub goes : GoesOn telling from to before front

-- with another output
abbrev pub with_out : Option (List ℕ) → Moment → Moment
with_out held m = record m { out = held }

-- Of the job's bytes the first were passed on and told. The write of what comes next of the finished job failed: it
-- wrote a proper prefix. The page is the one in hand behind the first bytes.
pub record HaltsPart (telling : Telling) (from to : Moment) (before full : List ℕ) (page : ℕ) : Type 0 where
  pub front : List ℕ
  pub rest : List ℕ
  pub next : List ℕ
  pub more : List ℕ
  pub split : job_of full ≡ front ++ rest
  pub grow : finished (job_of full) ≡ (whole_commands front ++ next) ++ more
  pub near : IsNext telling front next
  pub page_is : page ≡ page_in_hand (tally_behind front)
  pub middle : Option (List ℕ)
  pub goes : GoesOn telling from (with_out middle to) before front
  pub part : AppendsPart middle to.out next

-- that all of the job's bytes were passed on and told, as far as they are whole commands
abbrev pub PassesAll : Telling → Parts → Moment → Moment → List ℕ → List ℕ → Type 0
PassesAll telling parts from to before full = GoesOn telling from to before (job_of full) × Stands parts (job_of full)

-- why the bytes of a job are not passed on, behind the bytes before
abbrev pub IsHalt : Telling → Option (List ℕ) → Option (List NamedText) → Parts → Moment → Moment → List ℕ → List ℕ → Halt → Type 0
IsHalt telling stop files parts from to before full halt.Asked = HaltsBetween telling from to before full × ShelfHas stop files
IsHalt telling stop files parts from to before full halt.Shelf =
    HaltsBetween telling from to before full × Rose from.shelf_faults to.shelf_faults
IsHalt telling stop files parts from to before full halt.Memory = HaltsBetween telling from to before full × IsSome stop
IsHalt telling stop files parts from to before full (halt.Write page) =
    Rose from.out_faults to.out_faults × HaltsPart telling from to before full page
IsHalt telling stop files parts from to before full (halt.Job offset cause) =
    PassesAll telling parts from to before full × IsRefused most_job full offset cause
IsHalt telling stop files parts from to before full halt.Read = ⊥

-- how a piece of a job is passed on, which ends the job's bytes
abbrev pub IsPieceEnd : Telling → Option (List ℕ) → Option (List NamedText) → Parts → Moment → Moment → List ℕ → List ℕ
    → Result (Unit {0}) Halt → Type 0
IsPieceEnd telling stop files parts from to before full (Ok u) = Reads parts (job_of full) × GoesOn telling from to before (job_of full)
IsPieceEnd telling stop files parts from to before full (Err why) = IsHalt telling stop files parts from to before full why

-- ---- an event

-- a fact of the event, if one was seen
abbrev pub OnDue : SeenState → (Event → Type 0) → Type 0
OnDue seen.More P = Unit {0}
OnDue (seen.Due event) P = P event
OnDue (seen.Fault offset cause) P = Unit {0}

-- The parts took more bytes, up to the end of an event, and the output grew by what they made whole.
pub record PassesSeen (telling : Telling) (parts : Parts) (out : Outside) (before after : List ℕ) (state : SeenState) : Type 0 where
  pub reads : Reads parts after
  pub passes : PassesOn out before after
  pub lines : told telling after ≡ told telling before ++ seen_lines telling (tally_of parts.watch) state
  pub ends : OnDue state (λ event. EndsWith event telling before after)

-- The write of the next commands of a job failed: it wrote a proper prefix.
pub record StopsPart (telling : Telling) (out : Outside) (before full : List ℕ) (page : ℕ) : Type 0 where
  pub rest : List ℕ
  pub next : List ℕ
  pub more : List ℕ
  pub split : job_of full ≡ before ++ rest
  pub grow : finished (job_of full) ≡ (whole_commands before ++ next) ++ more
  pub near : IsNext telling before next
  pub page_is : page ≡ page_in_hand (tally_behind before)
  pub part : AppendsPart out.before out.now next

-- The job is refused at this offset. Its whole commands were passed on, and have no lines.
pub record StopsAtFault (telling : Telling) (parts : Parts) (out : Outside) (before full : List ℕ) (offset : ℕ) (cause : JobStop) : Type 0 where
  pub passes : PassesOn out before (job_of full)
  pub lines : told telling (job_of full) ≡ told telling before
  pub stands : Stands parts (job_of full)
  pub refused : IsRefused most_job full offset cause

-- why the parts stop within the next bytes of a job
abbrev pub IsStop : Telling → Parts → Outside → List ℕ → List ℕ → Halt → Type 0
IsStop telling parts out before full (halt.Write page) = HasRisen out × StopsPart telling out before full page
IsStop telling parts out before full (halt.Job offset cause) = StopsAtFault telling parts out before full offset cause
IsStop telling parts out before full other = ⊥

-- why the parts stop where the watch stops, if it met a fault
abbrev pub fault_halt : SeenState → Option Halt
fault_halt seen.More = None
fault_halt (seen.Due event) = None
fault_halt (seen.Fault offset cause) = Some (halt.Job offset (job_stop.Reader cause))

-- whether a command is a reset
abbrev pub is_init : Command → Bool
is_init c.Init = true
is_init other = false

-- whether a reset was seen
abbrev pub is_reset : SeenState → Bool
is_reset seen.More = false
is_reset (seen.Due event) = is_init event.command
is_reset (seen.Fault offset cause) = false

-- why the shelf ends a run
abbrev pub IsAskHalt : Option (List ℕ) → Option (List NamedText) → ℕ → ℕ → Halt → Type 0
IsAskHalt stop files before now halt.Asked = ShelfHas stop files
IsAskHalt stop files before now halt.Shelf = Rose before now
IsAskHalt stop files before now halt.Memory = IsSome stop
IsAskHalt stop files before now other = ⊥

-- ---- a whole job

-- how the bytes that were taken of a source are passed on
abbrev pub IsPassed : Telling → Option (List ℕ) → Option (List NamedText) → Parts → Outside → Moment → Moment → List ℕ
    → Result (Unit {0}) Halt → Type 0
IsPassed telling stop files parts input from to bytes (Ok u) =
    PassesAll telling parts from to [] bytes × IsAtEnd input.now × JobMayGoOn (job_end bytes most_job None)
IsPassed telling stop files parts input from to bytes (Err halt.Read) =
    PassesAll telling parts from to [] bytes × HasRisen input × JobMayGoOn (job_end bytes most_job None)
IsPassed telling stop files parts input from to bytes (Err why) = IsHalt telling stop files parts from to [] bytes why

-- These bytes were taken of the source, and were passed on so.
pub record PassesJob (telling : Telling) (stop : Option (List ℕ)) (files : Option (List NamedText)) (parts : Parts) (input : Outside)
    (from to : Moment) (answer : Result (Unit {0}) Halt) : Type 0 where
  pub bytes : List ℕ
  pub taken : Consumes input.before input.now bytes
  pub is : IsPassed telling stop files parts input from to bytes answer

-- whether the page of a job that was passed on so is to be ended
abbrev pub ends_page : Result (Unit {0}) Halt → Bool
ends_page (Ok u) = true
ends_page (Err (halt.Job offset cause)) = true
ends_page (Err halt.Read) = true
ends_page (Err other) = false

-- The write of a page's end failed.
pub record FailsEnd (parts : Parts) (out : Outside) (why : Halt) : Type 0 where
  pub why_is : why ≡ halt.Write (page_in_hand (tally_of parts.watch))
  pub rose : HasRisen out
  pub part : AppendsPart out.before out.now (ending_bytes (state_in parts))
