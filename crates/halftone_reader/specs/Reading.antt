-- Pages that are read from a stream and halftoned.
use Rattle.pwg_definitions.specs.Limits.{most_pages}
use Rattle.std.specs.Prelude.{◌≡◌, ℕ, ◌+◌, ◌≤◌, List, ◌++◌, Option, None}
use Rattle.std.specs.Io.KnownBytes.{Consumes}
use Rattle.page_definitions.specs.Dots.{HasDots, Screening, halftone}
use Rattle.printer_definitions.specs.Printer.{Printer}
use Rattle.pwg_definitions.specs.declared.pages.PageForm.{PageForm}
use Rattle.pwg_definitions.specs.declared.pages.Wanted.{Wanted}
use Rattle.pwg_definitions.specs.Stream.{Page, page_at}
use Rattle.pwg_definitions.specs.Stream.PageRead.{Whole}
use Rattle.pwg_stream.specs.declared.reader.PageReader.{PageReader}
use Rattle.pwg_stream.specs.Reading.{has_ended, lines_left_of, page_of, stop_of, text_of}
use Rattle.dot_planes.specs.Tables.{DotTable, dot}
use Rattle.separation_definitions.specs.Windows.{wanted_by}

-- The next bytes of the text are this page, whatever follows, and were used.
pub record ReadsPage (want : Wanted) (old new : PageReader) (before now : Option (List ℕ)) (page : Page) : Type 0 where
  pub bytes : List ℕ
  pub used : Consumes (text_of old before) (text_of new now) bytes
  pub is : (rest : List ℕ) → page_at want (bytes ++ rest) ≡ Whole page rest
  pub number : page_of new ≡ page_of old + 1
  pub last : page_of new ≤ most_pages
  pub unended : has_ended new ≡ has_ended old

-- The next page was read, and the planes have the dots of its halftone.
pub record ReadsHalftone (p : Printer) (s : Screening)
    (old new : PageReader) (before now : Option (List ℕ)) (form : PageForm) (planes : DotTable) : Type 0 where
  pub page : Page
  pub reads : ReadsPage (wanted_by p) old new before now page
  pub form_is : form ≡ page.form
  pub dots : HasDots p (halftone page p s) planes.width planes.rows planes.inks (dot planes)

-- The reader is between two pages.
pub record IsBetween (reader : PageReader) : Type 0 where
  pub whole : lines_left_of reader ≡ 0
  pub going : stop_of reader ≡ None
