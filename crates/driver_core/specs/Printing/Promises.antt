-- What a run promises of the command `print`.
use Rattle.std.specs.Prelude.{◌≡◌, ℕ, ◌⊎◌, List, [], ◌∷◌, ◌++◌, Ok}
use Rattle.driver_answer.specs.declared.answer.Answer.TheVariants as answer
use Rattle.job_words.specs.declared.reading.Job.{Job}
use Rattle.job_words.specs.declared.table.Verb.TheVariants as verb
use Rattle.job_words.specs.Meaning.{job_meaning, profile_named}
use Rattle.printer_definitions.specs.Printer.{Printer}
use Rattle.pwg_definitions.specs.declared.faults.InputCause.{InputCause}
use Rattle.driver_core.specs.Outside.{HasFailed, Outside, Outsides}
use Rattle.driver_core.specs.Printing.One.{AnswersBy, IsCapped, IsFaulty, IsValid}
use Rattle.driver_core.specs.Printing.Outcome.{CountsOneMore, CountsPages, GoesOver, MeetsFault, PrintsAll}
use Rattle.driver_core.specs.Printing.Outcome.{PrintsSome, PrintsTaken, StopsInPage}
use Rattle.driver_core.specs.Runs.Fitting.{IsProfileOf, job_screening, way_of}
use Rattle.driver_core.specs.Runs.Outcome.{Tells, metered}
use Rattle.driver_core.specs.Runs.Asking.{AsksFor}

-- The promises of a run for the command `print`, by its words, the outside, the error sink and the status that it
-- returns.
pub record PrintPromises (words : List (List ℕ)) (o : Outsides) (err : Outside) (status : ℕ) : Type 0 where
  -- A valid job prints unless something outside fails or memory runs out: its stream has a clean end, and no page
  -- goes past the cap of a meter.
  pub valid : (job : Job) (p : Printer) → AsksFor words o.shelf.told verb.Print job (Ok p) → (HasFailed o.shelf → ⊥)
      → AnswersBy IsValid 0 p (job_screening job) o.input o.out (metered job o.meters) status
  -- On 0 all pages of the input are printed: the bytes that were written print exactly their dots. Each meter counted
  -- them.
  pub printed : (job : Job) (p : Printer) → AsksFor words o.shelf.told verb.Print job (Ok p) → status ≡ 0
      → (all : PrintsAll (way_of job) p (job_screening job) o.input o.out)
      × CountsPages p (job_screening job) (metered job o.meters) all.pages
  -- On 3 the error line names the fault; only the pages before it were written and counted.
  pub input : (job : Job) (p : Printer) → AsksFor words o.shelf.told verb.Print job (Ok p) → status ≡ 3
      → (page line : ℕ) × (cause : InputCause)
      × (meets : MeetsFault (way_of job) p (job_screening job) o.input o.out page line cause)
      × CountsPages p (job_screening job) (metered job o.meters) meets.pages
      × Tells err (answer.Input page line cause)
  pub refused : (job : Job) (p : Printer) → AsksFor words o.shelf.told verb.Print job (Ok p) → (HasFailed o.shelf → ⊥)
      → AnswersBy IsFaulty 3 p (job_screening job) o.input o.out (metered job o.meters) status
  -- On 4 all whole pages of what was read were written and counted, and nothing else; what was read has no fault but
  -- one that more bytes could mend, or is fewer than four bytes.
  pub stopped : (job : Job) (p : Printer) → AsksFor words o.shelf.told verb.Print job (Ok p) → status ≡ 4
      → (all : PrintsTaken (way_of job) p (job_screening job) o.input o.out)
      × CountsPages p (job_screening job) (metered job o.meters) all.pages
  -- On 7 some first pages of what was read were written whole, and nothing else. These are counted, or these and the
  -- next page.
  pub full : (job : Job) (p : Printer) → AsksFor words o.shelf.told verb.Print job (Ok p) → status ≡ 7
      → (some : PrintsSome (way_of job) p (job_screening job) o.input o.out)
      × (CountsPages p (job_screening job) (metered job o.meters) some.pages
      ⊎ CountsOneMore p (job_screening job) (metered job o.meters) some.pages some.taken.others)
  -- On 5 a proper prefix of the named page was written after the pages before it; it is counted with them.
  pub part : (job : Job) (p : Printer) → AsksFor words o.shelf.told verb.Print job (Ok p) → status ≡ 5
      → (number : ℕ) × (stops : StopsInPage (way_of job) p (job_screening job) o.input o.out number)
      × CountsPages p (job_screening job) (metered job o.meters) (stops.pages ++ stops.page ∷ [])
      × Tells err (answer.Write number)
  -- On 6 the named page was read whole, and goes past the cap of the first meter without room for it. Only the pages
  -- before it were written and counted.
  pub over : status ≡ 6 → (job : Job) × (p : Printer) × (job_meaning words ≡ Ok job) × (job.verb ≡ verb.Print)
      × IsProfileOf job o.shelf.told (profile_named words) (Ok p) × (page total dots cap : ℕ)
      × GoesOver (way_of job) p (job_screening job) o.input o.out (metered job o.meters) page total dots cap
      × Tells err (answer.OverCap page total dots cap)
  -- The first page that goes past a cap is refused, whatever follows it.
  pub capped : (job : Job) (p : Printer) → AsksFor words o.shelf.told verb.Print job (Ok p) → (HasFailed o.shelf → ⊥)
      → AnswersBy IsCapped 6 p (job_screening job) o.input o.out (metered job o.meters) status
