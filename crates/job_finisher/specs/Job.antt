-- How a job is passed on, before its page is ended.
use Rattle.std.specs.Prelude.{◌≡◌, ℕ, List, ◌++◌, take, Result, Ok, Err, Bool, true, false}
use Rattle.std.specs.Io.KnownBytes.{Appends, Consumes}
use Rattle.buffered_bytes.specs.Outside.{HasRisen, Outside}
use Rattle.escp2_definitions.specs.declared.stops.JobStop.TheVariants as job_stop
use Rattle.finish_definitions.specs.Finished.{page_state, whole_commands}
use Rattle.job_finisher.specs.Outcome.{EndsJob, IsRefused}
use Rattle.job_finisher.specs.Passing.{Passed, PassesOn, PassesPart, state_of}
use Rattle.job_finisher.specs.declared.finisher.JobFinisher.{JobFinisher}
use Rattle.job_finisher.specs.declared.finisher.PassStop.{PassStop}
use Rattle.job_finisher.specs.declared.finisher.PassStop.TheVariants as pass
use Rattle.job_finisher.specs.declared.job.FinishStop.{FinishStop}
use Rattle.job_finisher.specs.declared.job.FinishStop.TheVariants as stop
use Rattle.weave_base.specs.Parts.{AppendsPart}

-- why a job stops where a piece of it is not passed on
abbrev pub pass_stop : PassStop → FinishStop
pass_stop (pass.Fault offset cause) = stop.Job offset (job_stop.Reader cause)
pass_stop pass.Write = stop.Write

-- whether a write failed
abbrev pub is_write_failure : Result (Unit {0}) FinishStop → Bool
is_write_failure (Ok u) = false
is_write_failure (Err (stop.Job offset cause)) = false
is_write_failure (Err stop.Read) = false
is_write_failure (Err stop.Write) = true
is_write_failure (Err stop.Memory) = false

-- Of these bytes of a job the whole commands were passed on, and leave the page in this state.
pub record PassesJob (most : ℕ) (finisher : JobFinisher) (out : Outside) (before bytes : List ℕ) : Type 0 where
  pub grown : List ℕ
  pub grow : whole_commands (take most bytes) ≡ whole_commands before ++ grown
  pub writes : Appends out.before out.now grown
  pub state_is : state_of finisher ≡ page_state (take most bytes)

-- what was passed on of a piece after these bytes of a job
abbrev pub IsPieceEnd : ℕ → JobFinisher → Outside → List ℕ → List ℕ → Result (Unit {0}) FinishStop → Type 0
IsPieceEnd most finisher out sofar piece (Ok u) = PassesOn out sofar (sofar ++ piece) × Passed finisher (sofar ++ piece)
IsPieceEnd most finisher out sofar piece (Err (stop.Job offset cause)) =
    PassesJob most finisher out sofar (sofar ++ piece) × IsRefused most (sofar ++ piece) offset cause
IsPieceEnd most finisher out sofar piece (Err stop.Read) = ⊥
IsPieceEnd most finisher out sofar piece (Err stop.Write) =
    HasRisen out × PassesPart out sofar (take most (sofar ++ piece))
IsPieceEnd most finisher out sofar piece (Err stop.Memory) = ⊥

-- Of the bytes that were taken of the source the whole commands were passed on.
pub record TakesJob (most : ℕ) (finisher : JobFinisher) (input out : Outside)
    (answer : Result (Unit {0}) FinishStop) : Type 0 where
  pub bytes : List ℕ
  pub taken : Consumes input.before input.now bytes
  pub ends : EndsJob most input bytes answer
  pub writes : Appends out.before out.now (whole_commands (take most bytes))
  pub state_is : state_of finisher ≡ page_state (take most bytes)

-- Of the bytes that were taken of the source a proper prefix of the whole commands was passed on.
pub record TakesPart (most : ℕ) (input out : Outside) : Type 0 where
  pub bytes : List ℕ
  pub taken : Consumes input.before input.now bytes
  pub writes : AppendsPart out.before out.now (whole_commands (take most bytes))

-- how a job of at most `most` bytes is passed on
abbrev pub PassResult : ℕ → JobFinisher → Outside → Outside → Result (Unit {0}) FinishStop → Type 0
PassResult most finisher input out (Ok u) = TakesJob most finisher input out (Ok u)
PassResult most finisher input out (Err (stop.Job offset cause)) =
    TakesJob most finisher input out (Err (stop.Job offset cause))
PassResult most finisher input out (Err stop.Read) = TakesJob most finisher input out (Err stop.Read)
PassResult most finisher input out (Err stop.Write) = HasRisen out × TakesPart most input out
PassResult most finisher input out (Err stop.Memory) = ⊥
