-- A stream of pages (PWG 5102.4, section 4): the sync word, and pages of a header and lines.
use Rattle.std.specs.Prelude.{◌≡◌, ℕ, zero, suc, ◌+◌, ◌-◌, nat_eq, nat_lt, if◌then◌else◌, List, [], ◌∷◌, ◌++◌, length, take, drop}
use Rattle.std.specs.Prelude.{replicate, Result, Ok, Err}
use Rattle.std.specs.List.{starts_with, AllByRecursion}
use Rattle.pwg_definitions.specs.declared.pages.Header.{Header}
use Rattle.pwg_definitions.specs.declared.pages.PageForm.{PageForm}
use Rattle.pwg_definitions.specs.declared.pages.Wanted.{Wanted}
use Rattle.pwg_definitions.specs.declared.faults.HeaderFault.{HeaderFault}
use Rattle.pwg_definitions.specs.declared.faults.InputCause.{InputCause}
use Rattle.pwg_definitions.specs.declared.faults.InputCause.TheVariants as cause
use Rattle.pwg_definitions.specs.Limits.{header_length, most_pages}
use Rattle.pwg_definitions.specs.Header.{IsWanted, KindRow, check, header_of, line_units, row_of}
use Rattle.pwg_definitions.specs.Groups.{group_at}
use Rattle.pwg_definitions.specs.Groups.GroupRead.{Group, Part, Wrong}

-- A page: its form, and its lines as bytes.
pub record Page : Type 0 where
  pub form : PageForm
  pub lines : List (List ℕ)

-- How a stream ends: after its last page, or with a fault. Pages and their lines count from 1; line 0 is a
-- page's header, and page 0 the sync word.
pub data StreamEnd : Type 0 where
  Done : StreamEnd
  Fault : ℕ → ℕ → InputCause → StreamEnd

-- A stream: its whole pages, and how it ends.
pub record Stream : Type 0 where
  pub pages : List Page
  pub end : StreamEnd

-- ---- lines

-- What the bytes begin with: lines, and the bytes after them; or a first fault, and the first line of its group.
pub data LinesRead : Type 0 where
  Lines : List (List ℕ) → List ℕ → LinesRead
  Stop : ℕ → InputCause → LinesRead

-- the lines with `front` before them
abbrev pub with_lines : List (List ℕ) → LinesRead → LinesRead
with_lines front (Lines lines rest) = Lines (front ++ lines) rest
with_lines front (Stop line cause) = Stop line cause

-- The last `left` lines of a page of this height, in at most `most` groups: each has a line or more.
unfoldable pub lines_at : KindRow → ℕ → ℕ → ℕ → ℕ → List ℕ → LinesRead
lines_at row units height most zero bytes = Lines [] bytes
lines_at row units height zero (suc left) bytes = Stop (height - suc left + 1) cause.Truncated
lines_at row units height (suc most) (suc left) bytes = elim (group_at row units (suc left) bytes) [
  | Group repeats line rest ↦
      with_lines (replicate repeats line) (lines_at row units height most (suc left - repeats) rest)
  | Part ↦ Stop (height - suc left + 1) cause.Truncated
  | Wrong place fault ↦ Stop (height - suc left + 1) (cause.Line fault)
]

-- ---- pages

-- What the bytes begin with: a page, and the bytes after it; or the line and the cause of its first fault.
pub data PageRead : Type 0 where
  Whole : Page → List ℕ → PageRead
  Broken : ℕ → InputCause → PageRead

-- the page of these lines
abbrev pub page_of : PageForm → LinesRead → PageRead
page_of form (Lines lines rest) = Whole (record { form = form; lines = lines }) rest
page_of form (Stop line cause) = Broken line cause

-- the lines of a page of this form
abbrev pub lines_of : PageForm → List ℕ → LinesRead
lines_of form bytes =
    let row = row_of form.kind in lines_at row (line_units row form.width) form.height form.height form.height bytes

-- the page after a header that was checked
abbrev pub page_behind : Result PageForm HeaderFault → List ℕ → PageRead
page_behind (Err fault) bytes = Broken 0 (cause.Header fault)
page_behind (Ok form) bytes = page_of form (lines_of form bytes)

-- the next page
abbrev pub page_at : Wanted → List ℕ → PageRead
page_at want bytes =
    if nat_lt (length bytes) header_length then Broken 0 cause.Truncated
    else page_behind (check want (header_of (take header_length bytes))) (drop header_length bytes)

-- the stream with this page before it
abbrev pub with_page : Page → Stream → Stream
with_page page s = record { pages = page ∷ s.pages; end = s.end }

-- The pages from number `page` on, of which there may be `most`.
unfoldable pub pages_from : Wanted → ℕ → ℕ → List ℕ → Stream
pages_from want most page [] = record { pages = []; end = Done }
pages_from want zero page (b ∷ bytes) = record { pages = []; end = Fault page 0 cause.TooManyPages }
pages_from want (suc most) page (b ∷ bytes) = elim (page_at want (b ∷ bytes)) [
  | Whole p rest ↦ with_page p (pages_from want most (page + 1) rest)
  | Broken line why ↦ record { pages = []; end = Fault page line why }
]

-- `RaS2` (PWG 5102.4, section 4.1)
abbrev pub sync_word : List ℕ
sync_word = 82 ∷ 97 ∷ 83 ∷ 50 ∷ []

-- what the bytes of a stream are read as: the sync word, and at most 9,999 pages
unfoldable pub stream : Wanted → List ℕ → Stream
stream want bytes =
    if starts_with nat_eq bytes sync_word then pages_from want most_pages 1 (drop 4 bytes)
    else record { pages = []; end = Fault 0 0 cause.BadSync }

-- A page of a stream: its form is that of an accepted header, and its lines are as many and as long as the form says.
pub record IsPage (want : Wanted) (page : Page) : Type 0 where
  pub header : Header
  pub accepted : check want header ≡ Ok page.form
  pub wanted : IsWanted want page.form
  pub height : length page.lines ≡ page.form.height
  pub wide : AllByRecursion (λ line. length line ≡ page.form.bytes_per_line) page.lines
