-- What a run promises.
use Rattle.std.specs.Prelude.{◌≡◌, ℕ, ◌⊎◌, ◌↔◌, List, [], ◌++◌, length, Some, None, IsErr, IsSome, Ok, Err}
use Rattle.std.specs.Io.KnownBytes.{Appends}
use Rattle.buffered_bytes.specs.Outside.{HasRisen}
use Rattle.driver_answer.specs.Answers.{line_of, status_of}
use Rattle.driver_answer.specs.declared.answer.Answer.{Answer}
use Rattle.driver_answer.specs.declared.answer.Answer.TheVariants as answer
use Rattle.escp2_definitions.specs.Commands.{Entry, commands}
use Rattle.escp2_definitions.specs.Machine.{execute, start}
use Rattle.escp2_definitions.specs.declared.stops.JobStop.{JobStop}
use Rattle.finish_core.specs.Outcome.{EndsBetween, Finishes, FinishesAll, FinishesPart, FinishesRefused, RunOutcome, TakesNothing, telling_of}
use Rattle.finish_core.specs.Passing.{job_of}
use Rattle.finish_core.specs.Sides.{ShelfHas, ShelfLacks, Sides, Tells}
use Rattle.finish_definitions.specs.declared.state.PageState.{PageState}
use Rattle.finish_definitions.specs.declared.state.PageState.TheVariants.{Between, Begun, Open, Ejected}
use Rattle.finish_definitions.specs.Finished.{finished, page_state}
use Rattle.finish_words.specs.declared.reading.FinishRequest.{FinishRequest}
use Rattle.finish_words.specs.Meaning.{finish_meaning, stop_named}
use Rattle.job_words.specs.declared.usage.UsageFault.{UsageFault}
use Rattle.page_definitions.specs.Printing.{state_after}
use Rattle.page_tally.specs.Sheets.{cut_sheet_lines, pages_alone, sheet_lines}
use Rattle.printer_definitions.specs.Printer.{Printer}
use Rattle.weave_base.specs.Causes.{Rose}

-- The status is that of an answer whose cause holds, and if the error sink did not fail, it got the answer's line
-- after all lines of pages.
pub record IsAnswered (words : List (List ℕ)) (s : Sides) (status : ℕ) : Type 0 where
  pub a : Answer
  pub status_is : status ≡ status_of a
  pub outcome : RunOutcome words (line_of a) s a

-- the bytes that were taken of the source are finished, and the error sink got this line after theirs
abbrev pub FinishesSome : FinishRequest → List ℕ → Sides → Type 0
FinishesSome request last s = (bytes : List ℕ) × Finishes (telling_of request) last s bytes

-- the line of a page that is open behind commands, by the dots on its sheet
abbrev pub open_lines : Printer → List Entry → PageState → List ℕ
open_lines p entries Between = []
open_lines p entries Begun = []
open_lines p entries Open = cut_sheet_lines (length (execute p entries).sheets) p (state_after p start entries)
open_lines p entries Ejected = []

-- The promises of a run, by its words, what it reads, writes and asks, and the status that it returns.
pub record FinishPromises (words : List (List ℕ)) (s : Sides) (status : ℕ) : Type 0 where
  pub answered : IsAnswered words s status
  -- On 0 the output grew by the finished job of all bytes of the input, unless the shelf has the text that stops the
  -- run.
  pub finished : (request : FinishRequest) (bytes : List ℕ) → finish_meaning words ≡ Ok request → s.input.before ≡ Some bytes
      → (ShelfHas (stop_named words) s.shelf.files → ⊥) → status ≡ 0 → Appends s.out.before s.out.now (finished bytes)
  -- On 0, if the shelf shows that it has the text, nothing was taken or written.
  pub stopped : (request : FinishRequest) → finish_meaning words ≡ Ok request
      → (ShelfLacks (stop_named words) s.shelf.files → ⊥) → status ≡ 0 → TakesNothing [] s
  -- On 0 all of the input is finished, or the output grew by whole pages of it, byte for byte. This is for a shelf that
  -- does not show what it holds.
  pub between : (request : FinishRequest) → finish_meaning words ≡ Ok request → status ≡ 0
      → FinishesAll (telling_of request) (stop_named words) [] s ⊎ EndsBetween (telling_of request) [] s
  -- On 8 the job is refused, is finished up to there, and the error line says where and why.
  pub refused : (request : FinishRequest) → finish_meaning words ≡ Ok request → status ≡ 8
      → (offset : ℕ) × (cause : JobStop)
      × FinishesRefused (telling_of request) (stop_named words) (line_of (answer.Job offset cause)) s offset cause
  -- On 4 a read failed: of the input, and the job up to there is finished; or of the shelf, between two pages.
  pub read : (request : FinishRequest) → finish_meaning words ≡ Ok request → status ≡ 4
      → (HasRisen s.input × FinishesSome request (line_of answer.Read) s)
      ⊎ (Rose s.shelf.faults_before s.shelf.faults_now × EndsBetween (telling_of request) (line_of answer.Read) s)
  -- On 5 a write failed: a proper prefix of the finished job was written, and the error line has the page in hand
  -- before that write, which was to bring no more than the next command of interest or the end of the page.
  pub part : (request : FinishRequest) → finish_meaning words ≡ Ok request → status ≡ 5
      → HasRisen s.out × ((page : ℕ) × FinishesPart (telling_of request) (line_of (answer.Write page)) s page)
  -- On 7 nothing was taken, or the shelf lacked memory between two pages.
  pub memory : (request : FinishRequest) → finish_meaning words ≡ Ok request → status ≡ 7
      → TakesNothing (line_of answer.Memory) s
      ⊎ (IsSome (stop_named words) × EndsBetween (telling_of request) (line_of answer.Memory) s)
  -- On 1, and only then, a word is refused. Nothing was taken, and the error line has the word.
  pub usage : (status ≡ 1) ↔ IsErr (finish_meaning words)
  pub untaken : (fault : UsageFault) → finish_meaning words ≡ Err fault → TakesNothing (line_of (answer.Usage fault)) s
  pub range : (status ≡ 0) ⊎ (status ≡ 1) ⊎ (status ≡ 4) ⊎ (status ≡ 5) ⊎ (status ≡ 7) ⊎ (status ≡ 8)
  -- The lines of pages are those of the sheets that a printer ejects for the job, in order, if it takes its commands.
  -- Then comes the line of the page that is cut, and then the answer's line.
  pub lines : (p : Printer) (bytes last : List ℕ) → Finishes pages_alone last s bytes
      → (execute p (commands (job_of bytes)).entries).refused ≡ None
      → Tells s.err ((sheet_lines 0 (execute p (commands (job_of bytes)).entries).sheets
      ++ open_lines p (commands (job_of bytes)).entries (page_state (job_of bytes))) ++ last)
