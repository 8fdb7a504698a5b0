-- The outcomes of printing the pages of a stream: what was read, written and counted, by why it stopped.
use Rattle.std.specs.Prelude.{◌≡◌, ℕ, ◌+◌, ◌-◌, ◌⊎◌, List, [], ◌∷◌, ◌++◌, length, Option}
use Rattle.std.specs.Io.KnownBytes.{Appends}
use Rattle.page_definitions.specs.Dots.{Screening}
use Rattle.driver_answer.specs.declared.answer.Answer.{Answer}
use Rattle.driver_answer.specs.declared.answer.Answer.TheVariants as answer
use Rattle.ink_meter.specs.Accounts.{IsFirstOver, all_inks}
use Rattle.page_definitions.specs.Printing.{Prints}
use Rattle.page_definitions.specs.Ways.{KeepTo, most_rasters, page_bytes_by}
use Rattle.page_definitions.specs.declared.way.Way.{Way}
use Rattle.page_writer.specs.AtMost.{AppendsAtMost}
use Rattle.ink_meter.specs.Counts.{Admitted, counted, page_dots}
use Rattle.printer_definitions.specs.Printer.{Printer}
use Rattle.pwg_definitions.specs.declared.faults.InputCause.{InputCause}
use Rattle.pwg_definitions.specs.Stream.{Page}
use Rattle.pwg_definitions.specs.Stream.StreamEnd.{Done, Fault}
use Rattle.pwg_stream.specs.Taken.{TakesAllPages}
use Rattle.pwg_stream.specs.declared.stops.StreamStop.{StreamStop}
use Rattle.separation_definitions.specs.Windows.{wanted_by, window_of}
use Rattle.pwg_stream.specs.declared.stops.StreamStop.TheVariants as stream
use Rattle.weave_base.specs.Parts.{AppendsPart}
use Rattle.driver_core.specs.Outside.{HasRisen, Meters, Outside}
use Rattle.driver_core.specs.Printing.Pages.{BeginsStream, IsStream, ReadsStream, TakesPages, job_bytes}

-- The job of these pages was written: it prints them, and keeps to the way of the head.
pub record WritesJob (way : Way) (p : Printer) (s : Screening) (pages : List Page) (before now : Option (List ℕ)) : Type 0 where
  pub writes : Appends before now (job_bytes way p s pages)
  pub prints : Prints p s pages (job_bytes way p s pages)
  pub passes : KeepTo way p s pages

-- All pages of the input were printed: it is a stream with a clean end, and was read to this end; the job of its pages
-- was written.
pub record PrintsAll (way : Way) (p : Printer) (s : Screening) (input out : Outside) : Type 0 where
  pub pages : List Page
  pub reads : ReadsStream p input.before input.now pages
  pub told : IsStream p input.before pages Done
  pub job : WritesJob way p s pages out.before out.now

-- The input, if the source reports its bytes, is a stream of some pages that ends with this fault. The job of these
-- pages was written: those before the named page, none where page 0, the sync word, is named.
pub record MeetsFault (way : Way) (p : Printer) (s : Screening) (input out : Outside) (page line : ℕ) (cause : InputCause) : Type 0 where
  pub pages : List Page
  pub told : IsStream p input.before pages (Fault page line cause)
  pub stand : length pages ≡ page - 1
  pub job : WritesJob way p s pages out.before out.now

-- The job of some first pages of what was read was written.
pub record PrintsSome (way : Way) (p : Printer) (s : Screening) (input out : Outside) : Type 0 where
  pub pages : List Page
  pub taken : TakesPages p input.before input.now pages
  pub job : WritesJob way p s pages out.before out.now

-- The job of all whole pages of what was read was written. What was read has no fault but one that more bytes could
-- mend, or is fewer than four bytes.
pub record PrintsTaken (way : Way) (p : Printer) (s : Screening) (input out : Outside) : Type 0 where
  pub pages : List Page
  pub taken : TakesAllPages (wanted_by p) input.before input.now pages
  pub job : WritesJob way p s pages out.before out.now

-- The job of the pages before this one was written, and a proper prefix of its own. This prefix has no more rasters of
-- an ink than the way of the page takes. All of them are the first pages of what was read, and keep to the way of the
-- head.
pub record StopsInPage (way : Way) (p : Printer) (s : Screening) (input out : Outside) (number : ℕ) : Type 0 where
  pub pages : List Page
  pub page : Page
  pub taken : TakesPages p input.before input.now (pages ++ page ∷ [])
  pub number_is : number ≡ length pages + 1
  pub between : Option (List ℕ)
  pub job : WritesJob way p s pages out.before between
  pub part : AppendsPart between out.now (page_bytes_by way page p s)
  pub few : AppendsAtMost (most_rasters way p (window_of page.form p).height) between out.now
  pub passes : KeepTo way p s (pages ++ page ∷ [])

-- Each meter had room for each of these pages, and counted their dots and no others.
pub record CountsPages (p : Printer) (s : Screening) (meters : Meters) (pages : List Page) : Type 0 where
  pub admitted : Admitted p s pages meters.before
  pub counts : meters.now ≡ counted p s pages meters.before

-- The meters counted these pages and the first of the others.
pub record CountsOneMore (p : Printer) (s : Screening) (meters : Meters) (pages others : List Page) : Type 0 where
  pub page : Page
  pub later : List Page
  pub next : others ≡ page ∷ later
  pub pages_counted : CountsPages p s meters (pages ++ page ∷ [])

-- This page was read whole, and the first meter without room for its dots has this total and this cap. The job of the
-- pages before it was written, and these were counted. The input, if the source reports its bytes, begins with all of
-- them.
pub record GoesOver (way : Way) (p : Printer) (s : Screening) (input out : Outside) (meters : Meters) (number total dots cap : ℕ) : Type 0 where
  pub pages : List Page
  pub page : Page
  pub taken : TakesPages p input.before input.now (pages ++ page ∷ [])
  pub told : BeginsStream p input.before (pages ++ page ∷ [])
  pub number_is : number ≡ length pages + 1
  pub job : WritesJob way p s pages out.before out.now
  pub pages_counted : CountsPages p s meters pages
  pub index : ℕ
  pub first : IsFirstOver meters.now (page_dots page p s) (record { index = index; total = total; cap = cap })
  pub dots_are : dots ≡ all_inks (page_dots page p s)

-- What was read, written and counted, by the answer.
abbrev pub PrintOutcome : Way → Printer → Screening → Outside → Outside → Meters → Answer → Type 0
PrintOutcome way p s input out meters answer.Done = (all : PrintsAll way p s input out) × CountsPages p s meters all.pages
PrintOutcome way p s input out meters (answer.Input page line cause) =
    (meets : MeetsFault way p s input out page line cause) × CountsPages p s meters meets.pages
PrintOutcome way p s input out meters answer.Read =
    HasRisen input × (all : PrintsTaken way p s input out) × CountsPages p s meters all.pages
PrintOutcome way p s input out meters (answer.Write number) =
    HasRisen out × (stops : StopsInPage way p s input out number) × CountsPages p s meters (stops.pages ++ stops.page ∷ [])
PrintOutcome way p s input out meters (answer.OverCap number total dots cap) = GoesOver way p s input out meters number total dots cap
PrintOutcome way p s input out meters answer.Memory =
    (some : PrintsSome way p s input out)
    × (CountsPages p s meters some.pages ⊎ CountsOneMore p s meters some.pages some.taken.others)
PrintOutcome way p s input out meters other = ⊥

-- how many pages were written whole
abbrev pub pages_written : (way : Way) (p : Printer) (s : Screening) (input out : Outside) (meters : Meters) (a : Answer)
    → PrintOutcome way p s input out meters a → ℕ
pages_written way p s input out meters answer.Done does = length does.0.pages
pages_written way p s input out meters (answer.Input page line cause) does = length does.0.pages
pages_written way p s input out meters answer.Read does = length does.1.pages
pages_written way p s input out meters (answer.Write number) does = length does.1.pages
pages_written way p s input out meters (answer.OverCap number total dots cap) does = length does.pages
pages_written way p s input out meters answer.Memory does = length does.0.pages
pages_written way p s input out meters other does = 0

-- the outcome where so many pages were written whole
abbrev pub PrintedOutcome : Way → Printer → Screening → Outside → Outside → Meters → ℕ → Answer → Type 0
PrintedOutcome way p s input out meters pages a =
    (does : PrintOutcome way p s input out meters a) × (pages_written way p s input out meters a does ≡ pages)

-- ---- answers

-- the answer where the stream stops
abbrev pub stream_answer : StreamStop → Answer
stream_answer (stream.Input page line cause) = answer.Input page line cause
stream_answer stream.Read = answer.Read
stream_answer stream.Memory = answer.Memory
