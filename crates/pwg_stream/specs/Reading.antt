-- What a reader of pages shows, and what its answers mean.
use Rattle.std.specs.Prelude.{◌≡◌, ℕ, ◌+◌, ◌≤◌, Bool, false, List, [], ◌++◌, Option, Some, None, IfSome}
use Rattle.std.specs.Io.KnownBytes.{Consumes}
use Rattle.pwg_definitions.specs.declared.faults.InputCause.{InputCause}
use Rattle.pwg_definitions.specs.declared.pages.PageForm.{PageForm}
use Rattle.pwg_definitions.specs.declared.pages.Wanted.{Wanted}
use Rattle.pwg_definitions.specs.Limits.{most_pages}
use Rattle.pwg_definitions.specs.Header.{line_units, row_of}
use Rattle.pwg_definitions.specs.Groups.{GroupRead, group_at}
use Rattle.pwg_definitions.specs.Groups.GroupRead.{Group}
use Rattle.pwg_definitions.specs.Stream.{LinesRead, lines_at}
use Rattle.pwg_definitions.specs.Stream.LinesRead.{Stop}
use Rattle.pwg_lines.specs.declared.reader.LineReader.{LineReader}
use Rattle.pwg_lines.specs.Reading as lines
use Rattle.pwg_stream.specs.declared.reader.PageReader.{PageReader}
use Rattle.pwg_stream.specs.declared.stops.StreamStop.{StreamStop}
use Rattle.pwg_stream.specs.Pages.{GivesHeader}
use Rattle.buffered_bytes.specs.Text.{text_behind}

-- the text that the reader has before it: the bytes that it took and did not use, and then what the source has left
abbrev pub text_of : PageReader → Option (List ℕ) → Option (List ℕ)
text_of reader left = text_behind reader.unread left

-- how many pages were begun: the number of the current page
abbrev pub page_of : PageReader → ℕ
page_of reader = reader.page

-- the form of the page whose lines are read
abbrev pub form_in : Option LineReader → Option PageForm
form_in None = None
form_in (Some reader) = Some (lines.form_of reader)

-- the form of the current page
abbrev pub current_form : PageReader → Option PageForm
current_form reader = form_in reader.lines

-- how many of its lines are not yet given
abbrev pub lines_left_in : Option LineReader → ℕ
lines_left_in None = 0
lines_left_in (Some reader) = lines.lines_left_of reader

-- how many lines of the current page are not yet given
abbrev pub lines_left_of : PageReader → ℕ
lines_left_of reader = lines_left_in reader.lines

-- its line that was given last
abbrev pub line_in : Option LineReader → List ℕ
line_in None = []
line_in (Some reader) = lines.line_of reader

-- the line that was given last
abbrev pub line_of : PageReader → List ℕ
line_of reader = line_in reader.lines

-- why the reader stopped, where it did
abbrev pub stop_of : PageReader → Option StreamStop
stop_of reader = reader.stop

-- whether it answered that no page follows
abbrev pub has_ended : PageReader → Bool
has_ended reader = reader.at_end

-- ---- what its answers mean

-- what the bytes are read as, where the next group of a page of this form begins, which has `left` lines left
abbrev pub group_of : PageForm → ℕ → List ℕ → GroupRead
group_of form left bytes = let row = row_of form.kind in group_at row (line_units row form.width) left bytes

-- what the bytes are read as, where the last `left` lines of such a page begin
abbrev pub lines_of : PageForm → ℕ → List ℕ → LinesRead
lines_of form left bytes = let row = row_of form.kind in lines_at row (line_units row form.width) form.height left left bytes

-- The next bytes of the text were the header of a page of this form, which is the current page now.
pub record BeginsPage (want : Wanted) (old new : PageReader) (before now : Option (List ℕ)) (form : PageForm) : Type 0 where
  pub header : GivesHeader want (text_of old before) (text_of new now) form
  pub page : page_of new ≡ page_of old + 1
  pub last : page_of new ≤ most_pages
  pub form_is : current_form new ≡ Some form
  pub lines : lines_left_of new ≡ form.height
  pub unended : has_ended new ≡ false

-- The next bytes of the text were a group of the current page, with these repeats.
pub record GivesLines (old new : PageReader) (before now : Option (List ℕ)) (repeats : ℕ) : Type 0 where
  pub some : 1 ≤ repeats
  pub fall : lines_left_of new + repeats ≡ lines_left_of old
  pub page : page_of new ≡ page_of old
  pub form_is : current_form new ≡ current_form old
  pub unended : has_ended new ≡ has_ended old
  pub bytes : List ℕ
  pub used : Consumes (text_of old before) (text_of new now) bytes
  pub group : (form : PageForm) → current_form old ≡ Some form → (rest : List ℕ)
      → group_of form (lines_left_of old) (bytes ++ rest) ≡ Group repeats (line_of new) rest

-- The text has this fault in the current page, at the first line that is not yet given.
pub record HasLineFault (reader : PageReader) (before : Option (List ℕ)) (page line : ℕ) (cause : InputCause) : Type 0 where
  pub page_is : page ≡ page_of reader
  pub line_is : (form : PageForm) → current_form reader ≡ Some form → line + lines_left_of reader ≡ form.height + 1
  pub fault : (form : PageForm) → current_form reader ≡ Some form
      → IfSome (text_of reader before) (λ text. lines_of form (lines_left_of reader) text ≡ Stop line cause)
