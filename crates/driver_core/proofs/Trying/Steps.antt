-- A made stream whose pages are printed and executed one after another.
use Rattle.std.proofs.Common.{◌≡◌, ℕ, ◌+◌, ◌-◌, ◌*◌, ◌<◌, ◌≤◌, ◌^◌, false, List, [], ◌∷◌, ◌++◌, length, Option, None, Some, refl, sym, ◌∙◌, ap}
use Rattle.std.proofs.Common.{Err, IsErrOf, subst, arith, length-append}
use Rattle.std.specs.Io.KnownBytes.{Consumes, IsAtEnd}
use Rattle.page_definitions.specs.Dots.{Screening}
use Rattle.ink_meter.specs.Accounts.{together}
use Rattle.ink_meter.specs.Counts.{ink_dots, page_dots}
use Rattle.ink_meter.proofs.Pages.{page_dots-is}
use Rattle.job_player.specs.Counting.{IsBetweenPages, counts_of, sheets_of}
use Rattle.job_player.specs.declared.counting.JobCounter.{JobCounter}
use Rattle.page_definitions.specs.Dots.{dots_wanted, halftone}
use Rattle.page_definitions.specs.Ways.{page_bytes_by}
use Rattle.page_definitions.specs.declared.way.Way.{Way}
use Rattle.page_laws.proofs.Once.{wanted-once}
use Rattle.page_writer.specs.declared.sums.PageSum.{PageSum}
use Rattle.printer_definitions.specs.declared.inks.InkCounts.{InkCounts}
use Rattle.printer_definitions.specs.Printer.{Printer, row_units}
use Rattle.pwg_definitions.specs.Stream.{Page, Stream, stream, sync_word}
use Rattle.pwg_stream.specs.declared.reader.PageReader.{PageReader}
use Rattle.pwg_stream.specs.Reading.{has_ended, page_of, text_of}
use Rattle.halftone_reader.specs.Reading.{IsBetween, ReadsPage}
use Rattle.separation_definitions.specs.CanPrint.{CanPrint}
use Rattle.separation_definitions.specs.Windows.{wanted_by}
use Rattle.driver_core.specs.declared.trial.pages.Written.{Written}
use Rattle.driver_core.specs.declared.trial.summary.Totals.{Totals}
use Rattle.driver_core.specs.Printing.Outcome.{stream_answer}
use Rattle.driver_core.proofs.Printing.Ends.{stream_ends, stream_faults}
use Rattle.driver_answer.specs.declared.answer.Answer.{Answer}
use Rattle.halftone_reader.specs.SoFar.{EndsSo}
use Rattle.pwg_definitions.specs.Stream.StreamEnd.{Done, Fault}
use Rattle.pwg_stream.specs.declared.stops.StreamStop.{StreamStop}
use Rattle.pwg_stream.specs.declared.stops.StreamStop.TheVariants as stop
use Rattle.pwg_stream.specs.Stops.{OnInput}
use Rattle.weave_base.specs.Causes.{Rose}
use Rattle.driver_core.specs.Printing.Pages.{job_bytes}
use Rattle.driver_core.specs.Trying.Pages.{StopsTrying, TriesAll, TriesPage}
use Rattle.driver_core.specs.Trying.Summary.{dots_of_pages, rasters_of, rasters_of_pages, totals_of}
use Rattle.driver_core.proofs.Printing.StreamSteps.{StreamSoFar, job-append, next_read, stream_begin, stream_written}
use Rattle.driver_core.proofs.Trying.Sheets.{same-counts}

-- ---- one page more

rasters-append : (way : Way) (p : Printer) (k : Screening) (done : List Page) (page : Page)
    → rasters_of_pages way p k (done ++ page ∷ []) ≡ rasters_of_pages way p k done + rasters_of (page_bytes_by way page p k)
rasters-append way p k [] page = omega arith
rasters-append way p k (first ∷ done) page = omega (arith, rasters-append way p k done page)

dots-append : (p : Printer) (k : Screening) (done : List Page) (page : Page)
    → dots_of_pages p k (done ++ page ∷ []) ≡ together (dots_of_pages p k done) (page_dots page p k)
dots-append p k [] page = same-counts _ _ (omega arith) (omega arith) (omega arith) (omega arith)
dots-append p k (first ∷ done) page =
    let later = dots-append p k done page in
    let sum : (of : InkCounts → ℕ) → of (dots_of_pages p k (done ++ page ∷ [])) ≡ of (together (dots_of_pages p k done) (page_dots page p k)) =
    λ of. ap of later in
    same-counts _ _ (omega (arith, sum (λ n. n.k))) (omega (arith, sum (λ n. n.c))) (omega (arith, sum (λ n. n.m)))
    (omega (arith, sum (λ n. n.y)))

-- ---- so far

-- These pages were read, printed and executed.
pub record TriedSoFar (way : Way) (p : Printer) (k : Screening) (before left : Option (List ℕ)) (reader : PageReader) (number : ℕ)
    (written : Written) (counter : JobCounter) : Type 0 where
  pub done : List Page
  pub so_far : StreamSoFar way p k before left None None reader number done
  pub bytes : written.bytes ≡ length (job_bytes way p k done)
  pub rasters : written.rasters ≡ rasters_of_pages way p k done
  pub sheets : sheets_of counter ≡ length done
  pub counts : counts_of counter ≡ dots_of_pages p k done
  pub between : IsBetweenPages p counter
  pub few_bytes : written.bytes ≤ number * 2 ^ 40
  pub few_rasters : written.rasters ≤ number * 2 ^ 32

pub tried_begin : {way : Way} {p : Printer} {k : Screening} {before left : Option (List ℕ)} (reader : PageReader) (counter : JobCounter)
    → Consumes before (text_of reader left) sync_word → page_of reader ≡ 0 → IsBetween reader → has_ended reader ≡ false
    → IsBetweenPages p counter → sheets_of counter ≡ 0 → counts_of counter ≡ record { k = 0; c = 0; m = 0; y = 0 }
    → TriedSoFar way p k before left reader 1 (record { bytes = 0; rasters = 0 }) counter
tried_begin reader counter sync none between unended blank sheets counts = record {
  done = [];
  so_far = stream_begin reader sync none between unended;
  bytes = refl;
  rasters = refl;
  sheets = sheets;
  counts = counts;
  between = blank;
  few_bytes = omega arith;
  few_rasters = omega arith;
}

-- one more page was read, printed and executed
pub tried_page : {way : Way} {p : Printer} {k : Screening} {before left left' : Option (List ℕ)} {written : Written} {old : JobCounter}
    (now reader : PageReader) (number : ℕ) (page : Page) (new : JobCounter) (sum : PageSum) (len : ℕ) → CanPrint p
    → (tried : TriedSoFar way p k before left now number written old)
    → ReadsPage (wanted_by p) now reader left left' page → IsBetween reader
    → sum.rasters < 2 ^ 32
    → len ≡ page.form.height * row_units p → TriesPage way p (halftone page p k) len old new sum
    → TriedSoFar way p k before left' reader (number + 1)
    (record { bytes = written.bytes + sum.bytes; rasters = written.rasters + sum.rasters }) new
unfolding page_bytes_by
tried_page {way} {p} {k} {before} {left} {left'} {written} {old} now reader number page new sum len can tried reads between small len_is tries =
    let done : List Page = tried.done in
    let sums = rw len_is at tries.sums in
    let long : length (done ++ page ∷ []) ≡ length done + 1 = length-append done (page ∷ []) in
    let all : length (job_bytes way p k (done ++ page ∷ [])) ≡ length (job_bytes way p k done) + length (page_bytes_by way page p k) =
    ap length (job-append way p k done page) ∙ length-append (job_bytes way p k done) (page_bytes_by way page p k) in
    record {
      done = done ++ page ∷ [];
      so_far = stream_written None (next_read tried.so_far reads between) tt;
      bytes = omega (arith, tried.bytes, sums.bytes, all);
      rasters = omega (arith, tried.rasters, sums.rasters, rasters-append way p k done page);
      sheets = omega (arith, tried.sheets, tries.counts.sheets, long);
      counts = tries.counts.counts (wanted-once p (halftone page p k) can)
          ∙ ap (λ n. together n (ink_dots (dots_wanted p (halftone page p k)))) tried.counts
          ∙ ap (together (dots_of_pages p k done)) (page_dots-is p k page)
          ∙ sym (dots-append p k done page);
      between = tries.counts.between;
      few_bytes = omega (arith, tried.few_bytes, tries.sums.short);
      few_rasters = omega (arith, tried.few_rasters, small);
    }

-- ---- where it ends

-- the stream stops in its next page
pub page_stops : (T : Type 0) {way : Way} {p : Printer} {k : Screening} {made : List ℕ} {left : Option (List ℕ)} {reader : PageReader}
    {number : ℕ} {written : Written} {counter : JobCounter} (why : StreamStop) (a : Answer)
    → TriedSoFar way p k (Some made) left reader number written counter
    → OnInput {T = T} (Err why) (EndsSo (wanted_by p) reader left)
    → (IsErrOf {T = T} (Err why) stop.Read → Rose 0 0) → a ≡ stream_answer why → StopsTrying p made a
page_stops T {p = p} {made = made} (stop.Input page line cause) a tried bad rose answered =
    let told : stream (wanted_by p) made ≡ record { pages = tried.done; end = Fault page line cause } =
    stream_faults tried.so_far page line cause bad in
    subst (StopsTrying p made) (sym answered) (ap (λ (s : Stream). s.end) told)
page_stops T stop.Read a tried bad rose answered = absurd (omega (arith, (rose refl).rose))
page_stops T {p = p} {made = made} stop.Memory a tried bad rose answered = subst (StopsTrying p made) (sym answered) tt

-- the stream ended
pub all_tried : {way : Way} {p : Printer} {k : Screening} {made : List ℕ} {left : Option (List ℕ)} {reader : PageReader} {number : ℕ}
    {written : Written} {counter : JobCounter} (totals : Totals)
    → TriedSoFar way p k (Some made) left reader number written counter → IsAtEnd (text_of reader left)
    → totals ≡ record {
      pages = number - 1;
      sheets = sheets_of counter;
      bytes = written.bytes;
      rasters = written.rasters;
      dots = counts_of counter;
    } → TriesAll way p k made totals
all_tried {way} {p} {k} {made} {number = number} {written = written} {counter = counter} totals tried end are =
    let told : stream (wanted_by p) made ≡ record { pages = tried.done; end = Done } = stream_ends tried.so_far end in
    let pages : number - 1 ≡ length tried.done = omega (arith, tried.so_far.next) in
    let same : (pages sheets bytes rasters : ℕ) (dots : InkCounts) → Totals = λ pages sheets bytes rasters dots.
    record { pages = pages; sheets = sheets; bytes = bytes; rasters = rasters; dots = dots } in
    record {
      takes = ap (λ (s : Stream). s.end) told;
      are = are
          ∙ ap (λ n. same n (sheets_of counter) written.bytes written.rasters (counts_of counter)) pages
          ∙ ap (λ n. same (length tried.done) n written.bytes written.rasters (counts_of counter)) tried.sheets
          ∙ ap (λ n. same (length tried.done) (length tried.done) n written.rasters (counts_of counter)) tried.bytes
          ∙ ap (λ n. same (length tried.done) (length tried.done) (length (job_bytes way p k tried.done)) n (counts_of counter)) tried.rasters
          ∙ ap (λ (n : InkCounts). same (length tried.done) (length tried.done) (length (job_bytes way p k tried.done))
          (rasters_of_pages way p k tried.done) n) tried.counts
          ∙ ap (λ (s : Stream). totals_of way p k s.pages) (sym told);
    }
