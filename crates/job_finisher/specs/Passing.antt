-- What was passed on of a job.
use Rattle.std.specs.Prelude.{◌≡◌, ℕ, false, List, ◌++◌, length}
use Rattle.std.specs.Io.KnownBytes.{Appends}
use Rattle.buffered_bytes.specs.Outside.{HasRisen, Outside}
use Rattle.escp2_definitions.specs.Commands.{command_at, commands}
use Rattle.escp2_definitions.specs.Commands.Heard.{Part}
use Rattle.escp2_definitions.specs.Commands.ListEnd.{Fault}
use Rattle.escp2_definitions.specs.declared.stops.JobCause.{JobCause}
use Rattle.escp2_reader.specs.Reading.{StandsFor, fed_of, is_failed_of}
use Rattle.finish_definitions.specs.declared.state.PageState.{PageState}
use Rattle.finish_definitions.specs.Finished.{page_state, whole_commands}
use Rattle.job_finisher.specs.Holding.{held_in}
use Rattle.job_finisher.specs.declared.finisher.JobFinisher.{JobFinisher}
use Rattle.job_finisher.specs.declared.finisher.PassStop.{PassStop}
use Rattle.job_finisher.specs.declared.finisher.PassStop.TheVariants as stop
use Rattle.weave_base.specs.Parts.{AppendsPart}

-- the bytes of the command in hand
abbrev pub in_hand : JobFinisher → List ℕ
in_hand finisher = held_in finisher.held

-- how many bytes were fed
abbrev pub fed_in : JobFinisher → ℕ
fed_in finisher = fed_of finisher.reader

-- where the job stands in its page
abbrev pub state_of : JobFinisher → PageState
state_of finisher = finisher.state

-- These bytes of the job were fed: the bytes in hand are those behind the whole commands, and are a part of a command;
-- the state of the page is the one after these commands.
pub record Passed (finisher : JobFinisher) (sofar : List ℕ) : Type 0 where
  pub behind : sofar ≡ whole_commands sofar ++ in_hand finisher
  pub part_is : command_at (in_hand finisher) ≡ Part
  pub state_is : state_of finisher ≡ page_state sofar
  pub fed_is : fed_in finisher ≡ length sofar
  pub stands : StandsFor finisher.reader (in_hand finisher)
  pub is_open : is_failed_of finisher.reader ≡ false

-- some bytes of a job were fed, without a fault
abbrev pub HasPassed : JobFinisher → Type 0
HasPassed finisher = (sofar : List ℕ) × Passed finisher sofar

-- The sink grew by the bytes by which the whole commands of the job grew.
pub record PassesOn (out : Outside) (before after : List ℕ) : Type 0 where
  pub bytes : List ℕ
  pub grow : whole_commands after ≡ whole_commands before ++ bytes
  pub writes : Appends out.before out.now bytes

-- The sink grew by a proper prefix of these bytes.
pub record PassesPart (out : Outside) (before after : List ℕ) : Type 0 where
  pub bytes : List ℕ
  pub grow : whole_commands after ≡ whole_commands before ++ bytes
  pub writes : AppendsPart out.before out.now bytes

-- The bytes have a fault at this offset behind their whole commands, which leave the page in this state.
pub record MeetsFault (state : PageState) (bytes : List ℕ) (offset : ℕ) (cause : JobCause) : Type 0 where
  pub state_is : state ≡ page_state bytes
  pub fault : (commands bytes).end ≡ Fault offset cause

-- what was passed on, where a finisher stops in this state of the page
abbrev pub IsPassStop : PageState → Outside → List ℕ → List ℕ → PassStop → Type 0
IsPassStop state out before after (stop.Fault offset cause) =
    PassesOn out before after × MeetsFault state after offset cause
IsPassStop state out before after stop.Write = HasRisen out × PassesPart out before after
