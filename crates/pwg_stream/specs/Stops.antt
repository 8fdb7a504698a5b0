-- The stops of a reader of pages.
use Rattle.std.specs.Prelude.{ℕ, Result, Ok, Err}
use Rattle.pwg_definitions.specs.declared.faults.InputCause.{InputCause}
use Rattle.pwg_stream.specs.declared.groups.GroupStop.{GroupStop}
use Rattle.pwg_stream.specs.declared.groups.GroupStop.TheVariants as fault
use Rattle.pwg_stream.specs.declared.stops.StreamStop.{StreamStop}
use Rattle.pwg_stream.specs.declared.stops.StreamStop.TheVariants as stop

-- a fact where the stream has a fault, of its page, its line and its cause
abbrev pub OnInput : {T : Type 0} → Result T StreamStop → (ℕ → ℕ → InputCause → Type 0) → Type 0
OnInput (Ok x) P = Unit {0}
OnInput (Err (stop.Input page line cause)) P = P page line cause
OnInput (Err stop.Read) P = Unit {0}
OnInput (Err stop.Memory) P = Unit {0}

-- the stop at a line of a page where no group was read
abbrev pub line_stop : ℕ → ℕ → GroupStop → StreamStop
line_stop page line (fault.Input cause) = stop.Input page line cause
line_stop page line fault.Read = stop.Read
