-- How a job ends.
use Rattle.std.specs.Prelude.{ℕ, nat_lt, if◌then◌else◌, List, length, take, Option, Some, None}
use Rattle.printer_definitions.specs.Printer.{Printer}
use Rattle.escp2_definitions.specs.declared.stops.JobStop.{JobStop}
use Rattle.escp2_definitions.specs.declared.stops.JobStop.TheVariants as stop
use Rattle.escp2_definitions.specs.Commands.{CommandList, ListEnd, commands}
use Rattle.escp2_definitions.specs.Commands.ListEnd.{Whole, Cut, Fault}
use Rattle.escp2_definitions.specs.Machine.{Refused, execute}

-- The first stop of a job, and its offset.
pub record Stopped : Type 0 where
  pub at : ℕ
  pub why : JobStop

-- a stop at an offset
abbrev pub stopped : ℕ → JobStop → Option Stopped
stopped at why = Some (record { at = at; why = why })

-- what stops a job of this length, of which at most `most` bytes are taken, whose commands end so
abbrev pub list_stop : ListEnd → ℕ → ℕ → Option Stopped
list_stop (Fault at cause) most len = stopped at (stop.Reader cause)
list_stop (Cut at) most len = if nat_lt most len then stopped most stop.TooLong else stopped at stop.Cut
list_stop Whole most len = if nat_lt most len then stopped most stop.TooLong else None

-- the command that the machine refuses first, where there is a printer to run the commands
abbrev pub run_refusal : Option Printer → CommandList → Option Refused
run_refusal None job = None
run_refusal (Some p) job = (execute p job.entries).refused

-- the refusal of the machine, or else the later stop
abbrev pub first_stop : Option Refused → Option Stopped → Option Stopped
first_stop (Some refused) later = stopped refused.at (stop.Machine refused.fault)
first_stop None later = later

-- How a job ends, of which the first `most` bytes are taken: by the machine's refusal of a whole command, a fault of
-- the reader, a byte too many, or inside a command; `None` where it is whole.
abbrev pub job_end : List ℕ → ℕ → Option Printer → Option Stopped
job_end bytes most printer =
    let job : CommandList = commands (take most bytes) in
    first_stop (run_refusal printer job) (list_stop job.end most (length bytes))
