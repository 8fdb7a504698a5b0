-- Pages that are halftoned line by line.
use Rattle.std.specs.Prelude.{◌≡◌, ℕ, ℤ, ◌%◌, ◌+◌, ◌-◌, ◌<◌, ◌≤◌, Bool, false, List, ◌++◌, Some, length, min, slice_get}
use Rattle.diffusion_definitions.specs.Diffusion.{Plane, Table, errors, no_top, on}
use Rattle.diffusion_kernel.specs.Tables.{table_of}
use Rattle.diffusion_kernel.specs.declared.tables.Kernel.{Kernel}
use Rattle.dot_planes.specs.Tables.{AmountTable, HasSizeAs, amount}
use Rattle.printer_definitions.specs.Inks.{inks_of}
use Rattle.printer_definitions.specs.declared.inks.Ink.{Ink}
use Rattle.printer_definitions.specs.Printer.{Printer}
use Rattle.pwg_definitions.specs.Stream.{Page}
use Rattle.pwg_definitions.specs.declared.pages.PageForm.{PageForm}
use Rattle.grained_rows.specs.Grained.{grain_of}
use Rattle.grained_rows.specs.declared.grain.InkGrain.{InkGrain}
use Rattle.separation_definitions.specs.Amounts.{ink_plane}
use Rattle.separation_definitions.specs.Grain.{grained_plane}
use Rattle.separation_definitions.specs.Windows.{window_of}
use Rattle.separation_definitions.specs.declared.window.Window.{Window}
use Rattle.tile_border.specs.Tops.{edges_of}
use Rattle.tile_edges.specs.Tops.{IsBelow}
use Rattle.wavefront_team.specs.Dots.{Dots}
use Rattle.wavefront_team.specs.SoFar.{SoFar, dots_in}
use Rattle.ink_separation.specs.Separated.{HasLine}
use Rattle.ink_separation.specs.Separators.{IsSeparatorOf}
use Rattle.raw_rows.specs.declared.kept.RawRows.{RawRows}

-- A page that is being halftoned: its profile, form, kernel and grain, how many lines have come, how many rows of the
-- window are diffused, the dots so far, the bottom edges of the last diffused rows, the amounts of the rows after them,
-- and whether memory ran out.
pub record Halftoning : Type 0 where
  pub profile : Printer
  pub form : PageForm
  pub kernel : Kernel
  pub grain : InkGrain
  pub count : ℕ
  pub diffused : ℕ
  pub dots : SoFar
  pub top : List (List (List ℤ))
  pub slab : AmountTable
  pub failed : Bool

-- The rows of a page that are being filled: its profile and form, how many lines have come, the row of the window where
-- the slab begins, and its amounts.
pub record Filling : Type 0 where
  pub profile : Printer
  pub form : PageForm
  pub count : ℕ
  pub first : ℕ
  pub slab : AmountTable

-- The rows of a page that are diffused: the kernel, the grain, the dots so far, the bottom edges of the last diffused
-- rows, and whether memory ran out.
pub record Diffusing : Type 0 where
  pub kernel : Kernel
  pub grain : InkGrain
  pub dots : SoFar
  pub top : List (List (List ℤ))
  pub failed : Bool

-- a page of which the rows before a slab are diffused
abbrev pub joined : Filling → Diffusing → Halftoning
joined f d = record {
  profile = f.profile;
  form = f.form;
  kernel = d.kernel;
  grain = d.grain;
  count = f.count;
  diffused = f.first;
  dots = d.dots;
  top = d.top;
  slab = f.slab;
  failed = d.failed;
}

abbrev pub window : Halftoning → Window
window h = window_of h.form h.profile

-- how many rows of the window the first n lines reach
abbrev pub rows_done : Window → ℕ → ℕ
rows_done w count = min (count - w.top) w.height

-- how many of them wait for diffusion
abbrev pub held : Halftoning → ℕ
held h = rows_done (window h) h.count - h.diffused

-- The amounts of an ink over the window: as the pixels give them, and with grain.
pub record InkPlanes : Type 0 where
  pub plain : Plane
  pub grained : Plane

-- those on a page with these lines
abbrev pub planes_of : Halftoning → Ink → List (List ℕ) → InkPlanes
planes_of h ink lines =
    let page : Page = record { form = h.form; lines = lines } in
    record { plain = ink_plane page h.profile ink; grained = grained_plane page h.profile h.grain.grain ink }

-- An ink of a page, of which the first rows are diffused and the next ones are held.
pub record IsUpTo (k : Table) (p : InkPlanes) (i diffused held : ℕ) (t : Dots)
    (top : List (List (List ℤ))) (slab : AmountTable) : Type 0 where
  -- the dots of the diffused rows
  pub dots : (y x : ℕ) → y < diffused → x < p.grained.width → t.dot i y x ≡ on k p.grained (errors k p.grained no_top) y x
  -- while rows are left, the top has the errors of the last two diffused rows, 0 above the first
  pub errors_are : diffused < p.grained.height → IsBelow (edges_of top i) (λ t. errors k p.grained no_top (diffused + t))
  -- the amounts of the held rows, which have no grain yet
  pub amounts : (y x : ℕ) → y < held → x < p.plain.width → amount slab i y x ≡ p.plain.amount (diffused + y) x

-- The halftoning stands for the lines so far: whatever lines follow, each ink's dots, errors and amounts are those of
-- the page. The grain is that of the profile's inks. At most 256 rows are held, and the rows of the planes after the
-- diffused ones have no dots.
pub record StandsFor (h : Halftoning) (lines : List (List ℕ)) : Type 0 where
  pub count : length lines ≡ h.count
  pub grain : h.grain ≡ grain_of h.profile h.grain.grain
  pub inks : (i : ℕ) (ink : Ink) (more : List (List ℕ)) → slice_get (inks_of h.profile.inks) i ≡ Some ink
      → IsUpTo (table_of h.kernel) (planes_of h ink (lines ++ more)) i h.diffused (held h) (dots_in h.dots) h.top h.slab
  pub few : held h ≤ 256
  pub blank : (i y x : ℕ) → h.diffused ≤ y → y < h.dots.planes.rows → (dots_in h.dots).dot i y x ≡ false

-- the window of the page whose rows are filled
abbrev pub window_filled : Filling → Window
window_filled f = window_of f.form f.profile

-- how many rows of the slab are filled
abbrev pub filled : Filling → ℕ
filled f = rows_done (window_filled f) f.count - f.first

-- all of them are
abbrev pub IsFull : Filling → Type 0
IsFull f = rows_done (window_filled f) f.count ≡ f.first + f.slab.rows

-- A slab of a page's window: as wide as that, in the printer's inks, with whole bands of rows, at most 256, or those
-- that are left. The rows that have come are before the slab, or in it.
pub record HoldsRows (f : Filling) : Type 0 where
  pub width : f.slab.width ≡ (window_filled f).width
  pub inks : f.slab.inks ≡ length (inks_of f.profile.inks)
  pub some : 1 ≤ f.slab.rows
  pub most : f.slab.rows ≤ 256
  pub inside : f.first < (window_filled f).height → f.first + f.slab.rows ≤ (window_filled f).height
  pub whole : f.first + f.slab.rows < (window_filled f).height → f.slab.rows % 32 ≡ 0
  pub from : f.first ≤ rows_done (window_filled f) f.count
  pub room : rows_done (window_filled f) f.count ≤ f.first + f.slab.rows

-- The last row that is filled, where one is, has the amounts of a line.
pub record EndsWith (f : Filling) (line : List ℕ) : Type 0 where
  pub last : (n : ℕ) → filled f ≡ n + 1 → HasLine f.profile f.form.kind line (window_filled f) n f.slab

-- the same page, and the same rows of it
pub record IsSameRows (old new : Filling) : Type 0 where
  pub profile : new.profile ≡ old.profile
  pub form : new.form ≡ old.form
  pub first : new.first ≡ old.first
  pub size : HasSizeAs old.slab new.slab

-- Lines that are the next of a page were put after its lines so far, whatever its rows before the slab are diffused to.
abbrev pub PutsLines : Filling → Filling → List (List ℕ) → Type 0
PutsLines old new next = (d : Diffusing) (lines : List (List ℕ)) → StandsFor (joined old d) lines → StandsFor (joined new d) (lines ++ next)

-- The rows below a full slab are to be filled, in the same or in another slab.
pub record GoesOn (old new : Filling) : Type 0 where
  pub profile : new.profile ≡ old.profile
  pub form : new.form ≡ old.form
  pub count : new.count ≡ old.count
  pub first : new.first ≡ old.first + old.slab.rows
  pub rows : HoldsRows new

-- A slab that may take the place of the one that is being filled, once that is full.
pub record IsSpare (f : Filling) (spare : RawRows) : Type 0 where
  pub separator : IsSeparatorOf f.profile f.form.kind (window_filled f) spare.separator
  pub rows : f.first + f.slab.rows < (window_filled f).height → spare.rows ≡ f.slab.rows

-- Room for the dots of the window of a page of this form, in a printer's inks.
pub record HasRoom (form : PageForm) (p : Printer) (t : Dots) : Type 0 where
  pub width : t.width ≡ (window_of form p).width
  pub rows : t.rows ≡ (window_of form p).height
  pub inks : t.inks ≡ length (inks_of p.inks)

-- the same printer, form, kernel and grain
pub record IsSamePage (old new : Halftoning) : Type 0 where
  pub profile : new.profile ≡ old.profile
  pub form : new.form ≡ old.form
  pub kernel : new.kernel ≡ old.kernel
  pub grain : new.grain ≡ old.grain
