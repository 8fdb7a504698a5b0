-- What trying pages comes to, page by page.
use Rattle.std.specs.Prelude.{◌≡◌, ℕ, List, ◌<◌, ◌^◌, length}
use Rattle.page_definitions.specs.Dots.{Screening}
use Rattle.driver_answer.specs.declared.answer.Answer.{Answer}
use Rattle.driver_answer.specs.declared.answer.Answer.TheVariants as answer
use Rattle.driver_core.specs.declared.trial.summary.Totals.{Totals}
use Rattle.driver_core.specs.Trying.Summary.{rasters_of, stream_made, totals_of}
use Rattle.job_player.specs.Counting.{CountsPage}
use Rattle.job_player.specs.declared.counting.JobCounter.{JobCounter}
use Rattle.job_words.specs.declared.reading.Job.{Job}
use Rattle.page_definitions.specs.Dots.{Halftone, dots_wanted}
use Rattle.page_definitions.specs.Ways.{halftone_bytes_by}
use Rattle.page_definitions.specs.declared.way.Way.{Way}
use Rattle.page_writer.specs.declared.sums.PageSum.{PageSum}
use Rattle.printer_definitions.specs.Printer.{Printer}
use Rattle.pwg_definitions.specs.Stream.{Stream, stream}
use Rattle.pwg_definitions.specs.Stream.StreamEnd.{Done, Fault}
use Rattle.separation_definitions.specs.Windows.{wanted_by}

-- what a printer reads of the stream that is made for it
abbrev pub stream_read : Job → Printer → Stream
stream_read job p = stream (wanted_by p) (stream_made job p)

-- The sum has the bytes and the rasters that print a halftone this way; a page has less than a terabyte.
pub record SumsBy (way : Way) (p : Printer) (h : Halftone) (len : ℕ) (sum : PageSum) : Type 0 where
  pub bytes : sum.bytes ≡ length (halftone_bytes_by way p h len)
  pub rasters : sum.rasters ≡ rasters_of (halftone_bytes_by way p h len)
  pub short : sum.bytes < 2 ^ 40

-- A page of this halftone was printed this way and executed.
pub record TriesPage (way : Way) (p : Printer) (h : Halftone) (len : ℕ) (old new : JobCounter) (sum : PageSum) : Type 0 where
  pub sums : SumsBy way p h len sum
  pub counts : CountsPage p (dots_wanted p h) old new

-- The printer reads the made bytes to their end, and this is what their pages come to.
pub record TriesAll (way : Way) (p : Printer) (s : Screening) (made : List ℕ) (totals : Totals) : Type 0 where
  pub takes : (stream (wanted_by p) made).end ≡ Done
  pub are : totals ≡ totals_of way p s (stream (wanted_by p) made).pages

-- why trying the pages of made bytes stops
abbrev pub StopsTrying : Printer → List ℕ → Answer → Type 0
StopsTrying p made (answer.Input page line cause) = (stream (wanted_by p) made).end ≡ Fault page line cause
StopsTrying p made answer.Memory = Unit {0}
StopsTrying p made other = ⊥
