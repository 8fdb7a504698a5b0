-- What a printer reads of the stream that is made for it: the made pages, or a refusal of their header.
use Rattle.std.proofs.Common.{◌≡◌, ℕ, ◌<◌, ◌≤◌, ◌^◌, ◌⊎◌, Bool, true, false, if◌then◌else◌, List, [], Ok, Err, IsOk, refl, sym, ◌∙◌, ap, subst, arith}
use Rattle.std.specs.Io.KnownBytes.{Keeps}
use Rattle.page_definitions.specs.Dots.{Screening}
use Rattle.driver_answer.specs.declared.answer.Answer.{Answer}
use Rattle.driver_answer.specs.declared.answer.Answer.TheVariants as answer
use Rattle.job_words.specs.declared.reading.Job.{Job}
use Rattle.job_words.specs.Jobs.{IsWithinBounds}
use Rattle.page_definitions.specs.Printing.{Prints}
use Rattle.page_definitions.specs.Ways.{CanGo}
use Rattle.page_laws.proofs.WaysKept.{ways-keep, ways-print}
use Rattle.page_maker.proofs.Checked.{check-made}
use Rattle.page_maker.proofs.Spelled.{stream-made, stream-refused}
use Rattle.printer_definitions.specs.Printer.{Printer}
use Rattle.printer_profile.specs.Validity.{check as printer_check}
use Rattle.pwg_definitions.specs.declared.faults.HeaderFault.{HeaderFault}
use Rattle.pwg_definitions.specs.declared.faults.HeaderFault.TheVariants as fault
use Rattle.pwg_definitions.specs.declared.faults.InputCause.{InputCause}
use Rattle.pwg_definitions.specs.declared.faults.InputCause.TheVariants as cause
use Rattle.pwg_definitions.specs.declared.pages.Kind.{Kind}
use Rattle.pwg_definitions.specs.declared.pages.Kind.TheVariants as kinds
use Rattle.pwg_definitions.specs.declared.pages.PageForm.{PageForm}
use Rattle.pwg_definitions.specs.declared.pages.Wanted.{Wanted}
use Rattle.pwg_definitions.specs.Header.{header_bytes, header_of, is_outside, line_bytes, row_of}
use Rattle.pwg_definitions.specs.Stream.{Page, Stream}
use Rattle.pwg_definitions.specs.Stream.StreamEnd.{Done, Fault}
use Rattle.pwg_laws.proofs.HeaderLaws.{check-wanted}
use Rattle.pwg_laws.proofs.PageLaws.{stream-pages}
use Rattle.separation_definitions.specs.CanPrint.{ArePages, CanPrint}
use Rattle.separation_definitions.specs.Windows.{wanted_by}
use Rattle.base_definitions.specs.Limits.{most_columns}
use Rattle.driver_core.specs.declared.trial.summary.Totals.{Totals}
use Rattle.driver_core.specs.Outside.{Outside}
use Rattle.driver_core.specs.Runs.Fitting.{job_screening, way_of}
use Rattle.driver_core.specs.Trying.Outcome.{IsMadeFault, PrintsMade, RefusesMade, TakesMade, TrialOutcome, job_form, job_pages, job_summary}
use Rattle.driver_core.specs.Trying.Outcome.{made_bytes, made_check, made_sheets}
use Rattle.driver_core.specs.Trying.Pages.{StopsTrying, TriesAll, stream_read}
use Rattle.driver_core.specs.Trying.Summary.{stream_made, totals_line, totals_of}
use Rattle.driver_core.proofs.Trying.Sheets.{sheets-dots, sheets-many}

pub data ReadsMade (job : Job) (p : Printer) : Type 0 where
  Takes : TakesMade job p → stream_read job p ≡ record { pages = job_pages job; end = Done } → ReadsMade job p
  Refuses : (why : HeaderFault) → RefusesMade job p why
      → stream_read job p ≡ record { pages = []; end = Fault 1 0 (cause.Header why) } → ReadsMade job p

-- a line of a made page is short
line-short : (kind : Kind) (width : ℕ) → width ≤ most_columns → line_bytes width (row_of kind).bits_per_pixel < 2 ^ 32
line-short kinds.Gray8 width narrow = omega arith
line-short other width narrow = omega arith

-- a resolution that a printer has fits 32 bits
fits : (dpi : ℕ) → (dpi ≡ 360) ⊎ (dpi ≡ 720) → dpi < 2 ^ 32
fits dpi is = omega arith

pub reads_made : (job : Job) (p : Printer) → IsWithinBounds job → CanPrint p → ReadsMade job p
reads_made job p within can = by_size wide tall refl refl
  where
    want : Wanted
    want = wanted_by p

    form : PageForm
    form = job_form job

    wide : Bool
    wide = is_outside want.least_width want.most_width form.width

    tall : Bool
    tall = is_outside want.least_height want.most_height form.height

    short : form.bytes_per_line < 2 ^ 32
    short = line-short job.kind job.width within.most_width

    checks : made_check job p ≡ (if wide then Err fault.Width else if tall then Err fault.Height else Ok form)
    checks = check-made want form (omega (arith, within.most_width)) (omega (arith, within.most_height)) short
        (fits p.hdpi can.across) (fits p.vdpi can.down) refl

    refuses : (why : HeaderFault) → RefusesMade job p why → ReadsMade job p
    refuses why refused = Refuses why refused
        (stream-refused want job.seed job.pages form p.hdpi p.vdpi why within.some_pages refused)

    takes : TakesMade job p → ReadsMade job p
    takes taken = Takes taken (stream-made want job.seed job.pages form (omega (arith, within.most_pages))
        (check-wanted want (header_of (header_bytes form p.hdpi p.vdpi)) form taken)
        (omega (arith, within.most_width)) (omega (arith, within.most_height)) short (fits p.hdpi can.across) (fits p.vdpi can.down))

    by_size : (w t : Bool) → wide ≡ w → tall ≡ t → ReadsMade job p
    by_size true t w_is t_is = refuses fault.Width
        (checks ∙ ap (λ (b : Bool). if b then Err fault.Width else if tall then Err fault.Height else Ok form) w_is)
    by_size false true w_is t_is = refuses fault.Height
        (checks ∙ ap (λ (b : Bool). if b then Err fault.Width else if tall then Err fault.Height else Ok form) w_is
        ∙ ap (λ (b : Bool). if b then Err fault.Height else Ok form) t_is)
    by_size false false w_is t_is = takes
        (checks ∙ ap (λ (b : Bool). if b then Err fault.Width else if tall then Err fault.Height else Ok form) w_is
        ∙ ap (λ (b : Bool). if b then Err fault.Height else Ok form) t_is)

-- the printer that a profile stands for can print
pub stands_for : {q p : Printer} → q ≡ p → (IsOk (printer_check q) → CanPrint q) → IsOk (printer_check p) → CanPrint p
stands_for same can checked =
    let P : Printer → Type 0 = λ p. IsOk (printer_check p) in subst CanPrint same (can (subst P (sym same) checked))

-- a stream that is read to its end has the made pages
pub made_taken : (job : Job) (p : Printer) → ReadsMade job p → (stream_read job p).end ≡ Done
    → TakesMade job p × ((stream_read job p).pages ≡ job_pages job)
made_taken job p (Takes taken is) done = (taken, ap (λ (s : Stream). s.pages) is)
made_taken job p (Refuses why refused is) done =
    absurd (let differ : Fault 1 0 (cause.Header why) ≡ Done = sym (ap (λ (s : Stream). s.end) is) ∙ done in cc)

-- a stream that has a fault has that of its first header
pub made_refused : (job : Job) (p : Printer) (page line : ℕ) (found : InputCause) → ReadsMade job p
    → (stream_read job p).end ≡ Fault page line found → IsMadeFault job p page line found
made_refused job p page line found (Takes taken is) faulty =
    absurd (let differ : Done ≡ Fault page line found = sym (ap (λ (s : Stream). s.end) is) ∙ faulty in cc)
made_refused job p page line found (Refuses why refused is) faulty =
    let same : Fault page line found ≡ Fault 1 0 (cause.Header why) = sym faulty ∙ ap (λ (s : Stream). s.end) is in
    (why, refused, (let e : page ≡ 1 = cc in e), (let e : line ≡ 0 = cc in e), (let e : found ≡ cause.Header why = cc in e))

-- a trial that stopped before it wrote anything
pub trial_stopped : (job : Job) (p : Printer) (out : Outside) (a : Answer) → ReadsMade job p → StopsTrying p (stream_made job p) a
    → Keeps out.before out.now → TrialOutcome job p out a
trial_stopped job p out (answer.Input page line found) reads stops keeps = (made_refused job p page line found reads stops, keeps)
trial_stopped job p out answer.Memory reads stops keeps = keeps
trial_stopped job p out other reads stops keeps = absurd stops

-- the made pages that a printer takes are printed by their bytes
made_printed : (job : Job) (p : Printer) → CanPrint p → CanGo (way_of job) p → TakesMade job p
    → (stream_read job p).pages ≡ job_pages job → PrintsMade job p
made_printed job p can go takes is =
    let k : Screening = job_screening job in
    let P : List Page → Type 0 = ArePages p in
    let are : ArePages p (job_pages job) = subst P is (stream-pages (wanted_by p) (stream_made job p)) in
    let prints : Prints p k (job_pages job) (made_bytes job p) = ways-print (way_of job) p k (job_pages job) can go are in
    record {
      takes = takes;
      prints = prints;
      passes = ways-keep (way_of job) p k (job_pages job) can go are;
      sheets = sheets-many p k (job_pages job) (made_sheets job p) prints.sheets;
      dots = sheets-dots p k (job_pages job) (made_sheets job p) can prints.sheets;
    }

-- the line of a trial whose pages were read to the end is the summary of the made pages, which are printed
pub trial_line : (job : Job) (p : Printer) (totals : Totals) → CanPrint p → CanGo (way_of job) p → ReadsMade job p
    → TriesAll (way_of job) p (job_screening job) (stream_made job p) totals → PrintsMade job p × (totals_line totals ≡ job_summary job p)
trial_line job p totals can go reads all =
    let taken = made_taken job p reads all.takes in (
      made_printed job p can go taken.0 taken.1,
      ap totals_line (all.are ∙ ap (totals_of (way_of job) p (job_screening job)) taken.1),
    )
