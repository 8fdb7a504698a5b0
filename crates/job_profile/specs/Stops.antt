-- Why there is no profile.
use Rattle.std.specs.Prelude.{Result, Ok, Err}
use Rattle.job_profile.specs.declared.stops.ProfileStop.{ProfileStop}
use Rattle.job_profile.specs.declared.stops.ProfileStop.TheVariants as stop
use Rattle.job_profile.specs.Named.{Refusal, refused_at}
use Rattle.weave_base.specs.declared.shelf.ShelfStop.{ShelfStop}
use Rattle.weave_base.specs.declared.shelf.ShelfStop.TheVariants as shelf

-- the same for a shelf that failed
abbrev pub stop_of : ShelfStop → ProfileStop
stop_of shelf.Failed = stop.Failed
stop_of shelf.Memory = stop.Memory

-- a fact of the refusal, where the profile is refused
abbrev pub OnRefused : {T : Type 0} → Result T ProfileStop → (Refusal → Type 0) → Type 0
OnRefused (Ok x) P = Unit {0}
OnRefused (Err (stop.Refused line cause)) P = P (refused_at line cause)
OnRefused (Err stop.Failed) P = Unit {0}
OnRefused (Err stop.Memory) P = Unit {0}
