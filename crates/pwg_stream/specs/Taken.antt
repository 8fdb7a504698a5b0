-- What was taken of a source where a read failed: all that is whole in it was given, and it has no fault but one that
-- more bytes could mend, or is fewer than the four bytes of the sync word.
use Rattle.std.specs.Prelude.{◌≡◌, ℕ, ◌+◌, ◌-◌, ◌<◌, ◌⊎◌, List, [], length, Option, Some}
use Rattle.std.specs.Io.KnownBytes.{Consumes}
use Rattle.pwg_definitions.specs.declared.faults.InputCause.TheVariants as cause
use Rattle.pwg_definitions.specs.declared.pages.PageForm.{PageForm}
use Rattle.pwg_definitions.specs.declared.pages.Wanted.{Wanted}
use Rattle.pwg_definitions.specs.Groups.GroupRead.{Part}
use Rattle.pwg_definitions.specs.Limits.{most_pages}
use Rattle.pwg_definitions.specs.Stream.{Page, StreamEnd, pages_from, stream}
use Rattle.pwg_definitions.specs.Stream.StreamEnd.{Done, Fault}
use Rattle.pwg_stream.specs.declared.reader.PageReader.{PageReader}
use Rattle.pwg_stream.specs.Reading.{current_form, group_of, lines_left_of, text_of}

-- More bytes could mend this end of a stream: it is after a whole page, or inside of one.
abbrev pub StreamMayGoOn : StreamEnd → Type 0
StreamMayGoOn Done = Unit {0}
StreamMayGoOn (Fault page line why) = why ≡ cause.Truncated

-- The bytes that were taken are a stream of exactly these pages. Its end is one that more bytes could mend, or there
-- are fewer than four bytes where the sync word is to stand.
pub record TakesAllPages (want : Wanted) (before left : Option (List ℕ)) (pages : List Page) : Type 0 where
  pub bytes : List ℕ
  pub taken : Consumes before left bytes
  pub are : (stream want bytes).pages ≡ pages
  pub end : StreamMayGoOn (stream want bytes).end ⊎ (length bytes < 4)

-- Fewer bytes than this many were taken.
pub record TakesFewer (many : ℕ) (before left : Option (List ℕ)) : Type 0 where
  pub bytes : List ℕ
  pub taken : Consumes before left bytes
  pub short : length bytes < many

-- The bytes that were taken after this many pages have no further whole page, and an end that more bytes could mend.
pub record TakesNoPage (want : Wanted) (pages : ℕ) (before left : Option (List ℕ)) : Type 0 where
  pub bytes : List ℕ
  pub taken : Consumes before left bytes
  pub none : (pages_from want (most_pages - pages) (pages + 1) bytes).pages ≡ []
  pub end : StreamMayGoOn (pages_from want (most_pages - pages) (pages + 1) bytes).end

-- The bytes that were taken are a part of the next group of the current page, without a fault.
pub record TakesNoGroup (reader : PageReader) (before left : Option (List ℕ)) : Type 0 where
  pub bytes : List ℕ
  pub taken : Consumes (text_of reader before) left bytes
  pub part : (form : PageForm) → current_form reader ≡ Some form → group_of form (lines_left_of reader) bytes ≡ Part
