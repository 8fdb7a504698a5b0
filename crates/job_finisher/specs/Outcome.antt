-- How the finishing of a job ends.
use Rattle.std.specs.Prelude.{◌≡◌, ℕ, List, take, Result, Ok, Err, None}
use Rattle.std.specs.Io.KnownBytes.{Appends, Consumes, IsAtEnd}
use Rattle.buffered_bytes.specs.Outside.{HasRisen, Outside}
use Rattle.escp2_definitions.specs.JobEnds.{job_end, stopped}
use Rattle.escp2_definitions.specs.declared.stops.JobStop.{JobStop}
use Rattle.escp2_definitions.specs.declared.stops.JobStop.TheVariants as job_stop
use Rattle.escp2_reader.specs.Jobs.{JobMayGoOn}
use Rattle.finish_definitions.specs.Finished.{finished}
use Rattle.job_finisher.specs.declared.job.FinishStop.{FinishStop}
use Rattle.job_finisher.specs.declared.job.FinishStop.TheVariants as stop
use Rattle.weave_base.specs.Parts.{AppendsPart}

-- The bytes of a job of at most `most` bytes are refused at this offset, for another cause than their end.
pub record IsRefused (most : ℕ) (bytes : List ℕ) (offset : ℕ) (cause : JobStop) : Type 0 where
  pub stops : job_end bytes most None ≡ stopped offset cause
  pub no_cut : cause ≡ job_stop.Cut → ⊥

-- what ended the taking of a job's bytes: the end of the source, where the job is whole or is cut inside a command; a
-- fault of the table, or a job that is too long; a failed read, after bytes that have no fault
abbrev pub EndsJob : ℕ → Outside → List ℕ → Result (Unit {0}) FinishStop → Type 0
EndsJob most input bytes (Ok u) = IsAtEnd input.now × JobMayGoOn (job_end bytes most None)
EndsJob most input bytes (Err (stop.Job offset cause)) = IsRefused most bytes offset cause
EndsJob most input bytes (Err stop.Read) = HasRisen input × JobMayGoOn (job_end bytes most None)
EndsJob most input bytes (Err stop.Write) = ⊥
EndsJob most input bytes (Err stop.Memory) = ⊥

-- These bytes were taken of the source, and the sink grew by what they become: the whole commands of the first `most`
-- bytes, and the end of their page.
pub record Finishes (most : ℕ) (input out : Outside) (answer : Result (Unit {0}) FinishStop) : Type 0 where
  pub bytes : List ℕ
  pub taken : Consumes input.before input.now bytes
  pub ends : EndsJob most input bytes answer
  pub writes : Appends out.before out.now (finished (take most bytes))

-- These bytes were taken of the source, and a proper prefix of what they become was written.
pub record FinishesPart (most : ℕ) (input out : Outside) : Type 0 where
  pub bytes : List ℕ
  pub taken : Consumes input.before input.now bytes
  pub writes : AppendsPart out.before out.now (finished (take most bytes))

-- Nothing was taken or written, and nothing failed.
pub record IsUntouched (side : Outside) : Type 0 where
  pub same : side.now ≡ side.before
  pub faults : side.faults_now ≡ side.faults_before

-- how the finishing of a job of at most `most` bytes ends
abbrev pub FinishResult : ℕ → Outside → Outside → Result (Unit {0}) FinishStop → Type 0
FinishResult most input out (Ok u) = Finishes most input out (Ok u)
FinishResult most input out (Err (stop.Job offset cause)) = Finishes most input out (Err (stop.Job offset cause))
FinishResult most input out (Err stop.Read) = Finishes most input out (Err stop.Read)
FinishResult most input out (Err stop.Write) = HasRisen out × FinishesPart most input out
FinishResult most input out (Err stop.Memory) = IsUntouched input × IsUntouched out
