-- How a run of the finisher ends, by its answer.
use Rattle.std.specs.Prelude.{◌≡◌, ℕ, ◌⊎◌, List, ◌++◌, Option, IsSome, None, Result, Ok, Err}
use Rattle.std.specs.Io.KnownBytes.{Appends, Consumes, IsAtEnd}
use Rattle.buffered_bytes.specs.Outside.{HasRisen}
use Rattle.driver_answer.specs.declared.answer.Answer.{Answer}
use Rattle.driver_answer.specs.declared.answer.Answer.TheVariants as answer
use Rattle.escp2_definitions.specs.declared.stops.JobStop.{JobStop}
use Rattle.escp2_definitions.specs.JobEnds.{job_end}
use Rattle.escp2_reader.specs.Jobs.{JobMayGoOn}
use Rattle.finish_core.specs.declared.halts.Halt.{Halt}
use Rattle.finish_core.specs.declared.halts.Halt.TheVariants as halt
use Rattle.finish_core.specs.Passing.{IsNext, job_of, most_job, page_in_hand}
use Rattle.finish_core.specs.Sides.{ShelfHas, ShelfLacks, Sides, Tells}
use Rattle.finish_definitions.specs.declared.state.PageState.TheVariants.{Between}
use Rattle.finish_definitions.specs.Finished.{finished, page_state, whole_commands}
use Rattle.finish_words.specs.declared.reading.FinishRequest.{FinishRequest}
use Rattle.finish_words.specs.Meaning.{finish_meaning, stop_named}
use Rattle.job_finisher.specs.Outcome.{IsRefused, IsUntouched}
use Rattle.job_words.specs.declared.usage.UsageFault.{UsageFault}
use Rattle.page_tally.specs.declared.lines.Telling.{Telling}
use Rattle.page_tally.specs.Lines.{cut_lines}
use Rattle.page_watch.specs.Watching.{tally_behind, told}
use Rattle.weave_base.specs.Causes.{Rose}
use Rattle.weave_base.specs.Parts.{AppendsPart}

-- the lines of the whole commands of bytes, and then that of a page that is open behind them
abbrev pub all_told : Telling → List ℕ → List ℕ
all_told telling bytes = told telling bytes ++ cut_lines telling (tally_behind bytes) (page_state bytes)

-- In what follows, `last` are the bytes that the error sink gets after all lines of pages.

-- These bytes were taken of the source. The sink grew by what they become: the whole commands of the first `most_job`
-- bytes, and the end of their page. If the error sink did not fail, it got their lines.
pub record Finishes (telling : Telling) (last : List ℕ) (s : Sides) (bytes : List ℕ) : Type 0 where
  pub taken : Consumes s.input.before s.input.now bytes
  pub writes : Appends s.out.before s.out.now (finished (job_of bytes))
  pub tells : Tells s.err (all_told telling (job_of bytes) ++ last)

-- Bytes were taken of the source, and the sink grew by the first of them. These are whole commands that end between
-- pages, and are told.
pub record EndsBetween (telling : Telling) (last : List ℕ) (s : Sides) : Type 0 where
  pub bytes : List ℕ
  pub front : List ℕ
  pub rest : List ℕ
  pub taken : Consumes s.input.before s.input.now bytes
  pub split : bytes ≡ front ++ rest
  pub whole : whole_commands front ≡ front
  pub between : page_state front ≡ Between
  pub writes : Appends s.out.before s.out.now front
  pub tells : Tells s.err (told telling front ++ last)

-- Bytes were taken of the source. The sink grew by the whole commands of the first of them, which are told, and then by
-- a proper prefix of what the next write was to bring. The page is the one in hand behind these commands.
pub record FinishesPart (telling : Telling) (last : List ℕ) (s : Sides) (page : ℕ) : Type 0 where
  pub bytes : List ℕ
  pub front : List ℕ
  pub rest : List ℕ
  pub next : List ℕ
  pub more : List ℕ
  pub taken : Consumes s.input.before s.input.now bytes
  pub split : job_of bytes ≡ front ++ rest
  pub grow : finished (job_of bytes) ≡ (whole_commands front ++ next) ++ more
  pub near : IsNext telling front next
  pub page_is : page ≡ page_in_hand (tally_behind front)
  pub middle : Option (List ℕ)
  pub first : Appends s.out.before middle (whole_commands front)
  pub part : AppendsPart middle s.out.now next
  pub tells : Tells s.err (told telling front ++ last)

-- The input was read to its end, and its job is finished.
pub record FinishesAll (telling : Telling) (stop : Option (List ℕ)) (last : List ℕ) (s : Sides) : Type 0 where
  pub bytes : List ℕ
  pub finishes : Finishes telling last s bytes
  pub at_end : IsAtEnd s.input.now
  pub may : JobMayGoOn (job_end bytes most_job None)
  pub lacks : ShelfLacks stop s.shelf.files

-- A read of the input failed, and the job up to there is finished.
pub record FinishesRead (telling : Telling) (stop : Option (List ℕ)) (last : List ℕ) (s : Sides) : Type 0 where
  pub bytes : List ℕ
  pub finishes : Finishes telling last s bytes
  pub rose : HasRisen s.input
  pub may : JobMayGoOn (job_end bytes most_job None)
  pub lacks : ShelfLacks stop s.shelf.files

-- The job is refused at this offset, and is finished up to there.
pub record FinishesRefused (telling : Telling) (stop : Option (List ℕ)) (last : List ℕ) (s : Sides) (offset : ℕ)
    (cause : JobStop) : Type 0 where
  pub bytes : List ℕ
  pub finishes : Finishes telling last s bytes
  pub refused : IsRefused most_job bytes offset cause
  pub lacks : ShelfLacks stop s.shelf.files

-- Nothing was taken, and nothing was written to the sink.
pub record TakesNothing (last : List ℕ) (s : Sides) : Type 0 where
  pub input : IsUntouched s.input
  pub out : IsUntouched s.out
  pub tells : Tells s.err last

-- The shelf has the text that stops the run, and the run ends between pages. If the shelf shows what it holds, nothing
-- was taken.
pub record StopsBetween (telling : Telling) (stop : Option (List ℕ)) (last : List ℕ) (s : Sides) : Type 0 where
  pub ends : EndsBetween telling last s
  pub has : ShelfHas stop s.shelf.files
  pub at_once : IsSome s.shelf.files → TakesNothing last s

-- How a run ends that passes on a job, by its answer.
abbrev pub FinishOutcome : Telling → Option (List ℕ) → List ℕ → Sides → Answer → Type 0
FinishOutcome telling stop last s answer.Done =
    FinishesAll telling stop last s ⊎ StopsBetween telling stop last s
FinishOutcome telling stop last s (answer.Job offset cause) = FinishesRefused telling stop last s offset cause
FinishOutcome telling stop last s answer.Read =
    FinishesRead telling stop last s ⊎ (EndsBetween telling last s × Rose s.shelf.faults_before s.shelf.faults_now)
FinishOutcome telling stop last s (answer.Write page) =
    HasRisen s.out × FinishesPart telling last s page × ShelfLacks stop s.shelf.files
FinishOutcome telling stop last s answer.Memory = TakesNothing last s ⊎ (EndsBetween telling last s × IsSome stop)
FinishOutcome telling stop last s other = ⊥

-- the lines that a request asks for
abbrev pub telling_of : FinishRequest → Telling
telling_of request = record { pages = request.pages; progress = request.progress }

-- how a run ends by the meaning of its words: a word is refused, or a job is passed on
abbrev pub MeaningOutcome : Result FinishRequest UsageFault → Option (List ℕ) → List ℕ → Sides → Answer → Type 0
MeaningOutcome (Err fault) stop last s a = (a ≡ answer.Usage fault) × TakesNothing last s
MeaningOutcome (Ok request) stop last s a = FinishOutcome (telling_of request) stop last s a

abbrev pub RunOutcome : List (List ℕ) → List ℕ → Sides → Answer → Type 0
RunOutcome words last s a = MeaningOutcome (finish_meaning words) (stop_named words) last s a

-- the answer of the passing of a job
abbrev pub answer_of : Result (Unit {0}) Halt → Answer
answer_of (Ok u) = answer.Done
answer_of (Err halt.Asked) = answer.Done
answer_of (Err halt.Shelf) = answer.Read
answer_of (Err halt.Memory) = answer.Memory
answer_of (Err (halt.Write page)) = answer.Write page
answer_of (Err (halt.Job offset cause)) = answer.Job offset cause
answer_of (Err halt.Read) = answer.Read
