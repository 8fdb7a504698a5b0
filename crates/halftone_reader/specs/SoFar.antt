-- A page whose lines are read into slabs: what was read so far.
use Rattle.std.specs.Prelude.{◌≡◌, ◌⊎◌, ℕ, ◌+◌, ◌-◌, ◌≤◌, List, [], ◌++◌, length, replicate, Option, None, Some, IfSome}
use Rattle.std.specs.Prelude.{Result, IsErrOf, OnOk}
use Rattle.std.specs.Io.KnownBytes.{Consumes}
use Rattle.buffered_bytes.specs.Text.{UsesSome}
use Rattle.diffusion_kernel.specs.declared.tables.Kernel.{Kernel}
use Rattle.page_halftoner.specs.Halftones.{Diffusing, Filling, IsFull, IsSameRows, StandsFor, joined}
use Rattle.printer_definitions.specs.Printer.{Printer}
use Rattle.pwg_definitions.specs.Limits.{most_pages}
use Rattle.pwg_definitions.specs.declared.faults.InputCause.{InputCause}
use Rattle.pwg_definitions.specs.declared.pages.PageForm.{PageForm}
use Rattle.pwg_definitions.specs.declared.pages.Wanted.{Wanted}
use Rattle.pwg_definitions.specs.Header.{line_units, row_of}
use Rattle.pwg_definitions.specs.Stream.{LinesRead, Page, lines_at, page_at, page_of as page_of_lines, pages_from, with_lines}
use Rattle.pwg_definitions.specs.Stream.StreamEnd.{Fault}
use Rattle.pwg_stream.specs.declared.reader.PageReader.{PageReader}
use Rattle.pwg_stream.specs.declared.stops.StreamStop.{StreamStop}
use Rattle.pwg_stream.specs.declared.stops.StreamStop.TheVariants as stop
use Rattle.pwg_stream.specs.Reading.{current_form, has_ended, line_of, lines_left_of, page_of, stop_of, text_of}
use Rattle.pwg_stream.specs.Stops.{OnInput}
use Rattle.pwg_stream.specs.Taken.{TakesNoPage}
use Rattle.separation_definitions.specs.Windows.{wanted_by}

-- what the rest of a page with this many lines left is read as
abbrev pub rest_of : PageForm → ℕ → ℕ → List ℕ → LinesRead
rest_of form most left bytes = let row = row_of form.kind in lines_at row (line_units row form.width) form.height most left bytes

-- The header and the groups that were read so far are a prefix of a page: its form, and these lines.
pub record PageSoFar (want : Wanted) (old now : PageReader) (before left : Option (List ℕ)) (page : Page) : Type 0 where
  pub bytes : List ℕ
  pub used : Consumes (text_of old before) (text_of now left) bytes
  pub some : 1 ≤ length bytes
  pub most : ℕ
  pub enough : lines_left_of now ≤ most
  pub is : (rest : List ℕ) → page_at want (bytes ++ rest)
      ≡ page_of_lines page.form (with_lines page.lines (rest_of page.form most (lines_left_of now) rest))
  pub form_is : current_form now ≡ Some page.form
  pub number : page_of now ≡ page_of old + 1
  pub last : page_of now ≤ most_pages
  pub unended : has_ended now ≡ has_ended old
  pub going : stop_of now ≡ None

-- what follows is no page, and this is the stream's fault
abbrev pub EndsSo : Wanted → PageReader → Option (List ℕ) → ℕ → ℕ → InputCause → Type 0
EndsSo want old before number line why = IfSome (text_of old before) (λ text.
    pages_from want (most_pages - page_of old) (page_of old + 1) text ≡ record { pages = []; end = Fault number line why })

-- A page that was begun: the printer, the kernel and the grain that it is halftoned for, its form, and the reader and
-- what its source had left before the page.
pub record Begun : Type 0 where
  pub profile : Printer
  pub kernel : Kernel
  pub grain : ℕ
  pub form : PageForm
  pub reader : PageReader
  pub before : Option (List ℕ)

-- the page that begins with this form, where this was left of the input
abbrev pub begun : Printer → Kernel → ℕ → PageForm → PageReader → Option (List ℕ) → Begun
begun p k grain form reader before = record {
  profile = p;
  kernel = k;
  grain = grain;
  form = form;
  reader = reader;
  before = before;
}

-- What was read so far is a prefix of the page, and the halftoning stands for its lines, but for the last repeats of
-- the last line, which are still to be placed.
pub record HalftonedSoFar (b : Begun) (now : PageReader) (left : Option (List ℕ)) (f : Filling) (d : Diffusing) : Type 0 where
  pub lines : List (List ℕ)
  pub pending : ℕ
  pub page : PageSoFar (wanted_by b.profile) b.reader now b.before left
      (record { form = b.form; lines = lines ++ replicate pending (line_of now) })
  pub stands : StandsFor (joined f d) lines
  pub count : f.count + pending + lines_left_of now ≡ b.form.height
  pub profile_is : f.profile ≡ b.profile
  pub form_is : f.form ≡ b.form
  pub kernel_is : d.kernel ≡ b.kernel
  pub grain_is : d.grain.grain ≡ b.grain

-- the page may be read on: no stop stands, and the lines that are left are among those that are to be placed
pub record MayReadOn (r : PageReader) (f : Filling) : Type 0 where
  pub form_is : current_form r ≡ Some f.form
  pub going : stop_of r ≡ None
  pub given : f.count + lines_left_of r ≤ f.form.height

-- Whatever page was begun, it was read and halftoned further, or there was a stop: a fault of the page, or a read that
-- failed inside of it. What was used is a prefix of the text before the page.
pub record ReadsOn (r r' : PageReader) (left left' : Option (List ℕ)) (f f' : Filling) (d d' : Diffusing)
    {T : Type 0} (result : Result T StreamStop) : Type 0 where
  pub more : (b : Begun) → HalftonedSoFar b r left f d → OnOk result (HalftonedSoFar b r' left' f' d')
  pub input : (b : Begun) → HalftonedSoFar b r left f d → OnInput result (EndsSo (wanted_by b.profile) b.reader b.before)
  pub place : (b : Begun) → HalftonedSoFar b r left f d → OnInput result (λ number line why. number ≡ page_of b.reader + 1)
  pub taken : (b : Begun) → HalftonedSoFar b r left f d → IsErrOf result stop.Read
      → TakesNoPage (wanted_by b.profile) (page_of b.reader) (text_of b.reader b.before) left'
  pub used : (b : Begun) → HalftonedSoFar b r left f d → UsesSome (text_of b.reader b.before) (text_of r' left')

-- Lines of a page were read into a slab, whatever its rows before the slab are diffused to: until the slab is full, or
-- the page has no more.
pub record FillsSlab (r r' : PageReader) (left left' : Option (List ℕ)) (f f' : Filling)
    {T : Type 0} (result : Result T StreamStop) : Type 0 where
  pub reads : (d : Diffusing) → ReadsOn r r' left left' f f' d d result
  pub same : IsSameRows f f'
  pub done : OnOk result (IsFull f' ⊎ (f'.count ≡ f'.form.height))
