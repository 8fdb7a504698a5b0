-- The outcome of a trial.
use Rattle.std.specs.Prelude.{◌≡◌, ℕ, List, Result, Ok, Err, length}
use Rattle.std.specs.Io.KnownBytes.{Appends, Keeps}
use Rattle.driver_answer.specs.declared.answer.Answer.{Answer}
use Rattle.driver_answer.specs.declared.answer.Answer.TheVariants as answer
use Rattle.driver_core.specs.declared.trial.summary.Totals.{Totals}
use Rattle.driver_core.specs.Outside.{HasRisen, Outside}
use Rattle.driver_core.specs.Printing.Pages.{job_bytes}
use Rattle.driver_core.specs.Runs.Fitting.{job_screening, way_of}
use Rattle.driver_core.specs.Trying.Summary.{dots_of_sheets, summary, totals_of}
use Rattle.escp2_definitions.specs.Commands.{commands}
use Rattle.escp2_definitions.specs.Machine.{Sheet, execute}
use Rattle.job_words.specs.declared.reading.Job.{Job}
use Rattle.page_definitions.specs.Printing.{Prints}
use Rattle.page_definitions.specs.Ways.{KeepTo}
use Rattle.page_maker.specs.Made.{made_form, made_pages}
use Rattle.printer_definitions.specs.Printer.{Printer}
use Rattle.pwg_definitions.specs.declared.faults.HeaderFault.{HeaderFault}
use Rattle.pwg_definitions.specs.declared.faults.InputCause.{InputCause}
use Rattle.pwg_definitions.specs.declared.faults.InputCause.TheVariants as cause
use Rattle.pwg_definitions.specs.declared.pages.PageForm.{PageForm}
use Rattle.pwg_definitions.specs.Header.{check, header_bytes, header_of}
use Rattle.pwg_definitions.specs.Stream.{Page}
use Rattle.separation_definitions.specs.Windows.{wanted_by}
use Rattle.weave_base.specs.Parts.{AppendsPart}

-- the form of the pages that a job has made
abbrev pub job_form : Job → PageForm
job_form job = made_form job.width job.height job.kind

-- the pages that a job has made
abbrev pub job_pages : Job → List Page
job_pages job = made_pages job.seed job.pages (job_form job)

-- what these pages come to
abbrev pub job_totals : Job → Printer → Totals
job_totals job p = totals_of (way_of job) p (job_screening job) (job_pages job)

-- the bytes that print these pages, and the sheets that the printer makes of them
abbrev pub made_bytes : Job → Printer → List ℕ
made_bytes job p = job_bytes (way_of job) p (job_screening job) (job_pages job)

abbrev pub made_sheets : Job → Printer → List Sheet
made_sheets job p = (execute p (commands (made_bytes job p)).entries).sheets

-- the summary of the pages that a job has made
abbrev pub job_summary : Job → Printer → List ℕ
job_summary job p = summary (way_of job) p (job_screening job) (job_pages job)

-- what a printer's check says of the header of the made pages, which have the printer's resolution
abbrev pub made_check : Job → Printer → Result PageForm HeaderFault
made_check job p = check (wanted_by p) (header_of (header_bytes (job_form job) p.hdpi p.vdpi))

-- The printer takes the made pages.
abbrev pub TakesMade : Job → Printer → Type 0
TakesMade job p = made_check job p ≡ Ok (job_form job)

-- The printer takes the made pages. Their bytes print them, and keep to the way of the head. The totals have the number
-- of the sheets that the printer makes of these bytes, and the dots of each ink on these sheets.
pub record PrintsMade (job : Job) (p : Printer) : Type 0 where
  pub takes : TakesMade job p
  pub prints : Prints p (job_screening job) (job_pages job) (made_bytes job p)
  pub passes : KeepTo (way_of job) p (job_screening job) (job_pages job)
  pub sheets : (job_totals job p).sheets ≡ length (made_sheets job p)
  pub dots : (job_totals job p).dots ≡ dots_of_sheets (made_sheets job p)

-- The printer refuses the header of the made pages for this reason.
abbrev pub RefusesMade : Job → Printer → HeaderFault → Type 0
RefusesMade job p why = made_check job p ≡ Err why

-- This is the fault of the made stream: the header of its first page, which stands before that page's first line.
abbrev pub IsMadeFault : Job → Printer → ℕ → ℕ → InputCause → Type 0
IsMadeFault job p page line found =
    (why : HeaderFault) × RefusesMade job p why × (page ≡ 1) × (line ≡ 0) × (found ≡ cause.Header why)

-- What was tried and written, by the answer. Nothing is read. A failed write is in no page.
abbrev pub TrialOutcome : Job → Printer → Outside → Answer → Type 0
TrialOutcome job p out answer.Done = PrintsMade job p × Appends out.before out.now (job_summary job p)
TrialOutcome job p out (answer.Input page line found) = IsMadeFault job p page line found × Keeps out.before out.now
TrialOutcome job p out (answer.Write page) =
    (page ≡ 0) × PrintsMade job p × HasRisen out × AppendsPart out.before out.now (job_summary job p)
TrialOutcome job p out answer.Memory = Keeps out.before out.now
TrialOutcome job p out other = ⊥
