-- The pages of a stream that a run reads, and the bytes that it makes of them.
use Rattle.std.specs.Prelude.{◌≡◌, ℕ, List, ◌++◌, Option, IfSome}
use Rattle.std.specs.List.{flat_map}
use Rattle.std.specs.Io.KnownBytes.{Consumes, IsAtEnd}
use Rattle.page_definitions.specs.Dots.{Screening}
use Rattle.page_definitions.specs.Ways.{page_bytes_by}
use Rattle.page_definitions.specs.declared.way.Way.{Way}
use Rattle.printer_definitions.specs.Printer.{Printer}
use Rattle.separation_definitions.specs.Windows.{wanted_by}
use Rattle.pwg_definitions.specs.Stream.{Page, StreamEnd, stream}
use Rattle.pwg_definitions.specs.Stream.StreamEnd.{Done}

-- the job of pages that are printed this way: their bytes, one page after another
abbrev pub job_bytes : Way → Printer → Screening → List Page → List ℕ
job_bytes way p s pages = flat_map (λ page. page_bytes_by way page p s) pages

-- the input, if the source reports its bytes, is a stream of these pages with this end
abbrev pub IsStream : Printer → Option (List ℕ) → List Page → StreamEnd → Type 0
IsStream p before pages end = IfSome before (λ bytes. stream (wanted_by p) bytes ≡ record { pages = pages; end = end })

-- The input was read to its end, and is a stream of these pages with a clean end.
pub record ReadsStream (p : Printer) (before now : Option (List ℕ)) (pages : List Page) : Type 0 where
  pub bytes : List ℕ
  pub taken : Consumes before now bytes
  pub end : IsAtEnd now
  pub is : stream (wanted_by p) bytes ≡ record { pages = pages; end = Done }

-- the input, if the source reports its bytes, is a stream that begins with these pages
abbrev pub BeginsStream : Printer → Option (List ℕ) → List Page → Type 0
BeginsStream p before pages = IfSome before (λ bytes. (others : List Page) × ((stream (wanted_by p) bytes).pages ≡ pages ++ others))

-- These are the first pages of what was read of the input.
pub record TakesPages (p : Printer) (before now : Option (List ℕ)) (pages : List Page) : Type 0 where
  pub bytes : List ℕ
  pub taken : Consumes before now bytes
  pub others : List Page
  pub are : (stream (wanted_by p) bytes).pages ≡ pages ++ others
