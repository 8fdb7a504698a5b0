-- One more line of a page.
use Rattle.std.proofs.Common.{◌≡◌, ◌⊎◌, ℕ, ◌+◌, ◌-◌, ◌<◌, ◌≤◌, false, List, [], ◌∷◌, ◌++◌, Some}
use Rattle.std.proofs.Common.{slice_get, length, get_or, refl}
use Rattle.std.proofs.Common.{sym, ◌∙◌, ap, arith, inl, inr, subst, append_assoc, length-append, replicate, suc, zero, pos}
use Rattle.std.proofs.lemmas.Bool.{cases_lt}
use Rattle.std.proofs.lemmas.List.{append-nil, get_or_at}
use Rattle.std.proofs.lemmas.Option.{get_or_from_slice_get, slice_get_within}
use Rattle.diffusion_definitions.specs.Diffusion.{Errors, Plane, Table, errors, no_top, on}
use Rattle.diffusion_definitions.proofs.Solve.{errors_top}
use Rattle.diffusion_kernel.specs.Tables.{table_of}
use Rattle.dot_planes.specs.Tables.{AmountTable, DotTable, HasSizeAs, HasSizeOf, amount, dot}
use Rattle.grained_rows.specs.Grained.{grain_of, grained_amount, grained_table}
use Rattle.grained_rows.specs.declared.grain.InkGrain.{InkGrain}
use Rattle.raw_rows.proofs.Cells.{cell_is}
use Rattle.raw_rows.specs.Raw.{ink_at}
use Rattle.wavefront_team.specs.SoFar.{dots_in}
use Rattle.ink_separation.specs.declared.separator.Separator.{Separator}
use Rattle.raw_rows.specs.Raw.{table_of as amounts_of}
use Rattle.raw_rows.specs.declared.kept.RawRows.{RawRows}
use Rattle.printer_definitions.specs.Inks.{inks_of}
use Rattle.printer_definitions.specs.declared.inks.Ink.{Ink}
use Rattle.printer_definitions.specs.declared.inks.Ink.TheVariants.{Black}
use Rattle.printer_definitions.specs.declared.inks.InkSet.{InkSet}
use Rattle.printer_definitions.specs.Printer.{Printer, limit_of}
use Rattle.pwg_definitions.specs.Stream.{Page}
use Rattle.pwg_definitions.specs.declared.pages.PageForm.{PageForm}
use Rattle.separation_definitions.specs.Amounts.{amount as amount_of, ink_plane, pixel_at}
use Rattle.separation_definitions.specs.Grain.{grain_place, grained, grained_plane}
use Rattle.separation_definitions.specs.Windows.{window_of}
use Rattle.wavefront_team.specs.Slabs.{DiffusesSlab}
use Rattle.tile_border.specs.Tops.{edges_of}
use Rattle.tile_edges.specs.Tops.{IsBelow, top_of}
use Rattle.ink_separation.specs.Separated.{HasLine}
use Rattle.page_halftoner.specs.Slabs.{TakesLine}
use Rattle.page_halftoner.specs.Halftones.{Diffusing, EndsWith, Filling, GoesOn, Halftoning, HasRoom, HoldsRows, InkPlanes}
use Rattle.page_halftoner.specs.Halftones.{IsFull, IsSameRows, IsUpTo, PutsLines, StandsFor}
use Rattle.page_halftoner.specs.Screenings.{screening_of}
use Rattle.page_halftoner.specs.Halftones.{held, joined, planes_of, rows_done, window, window_filled}
use Rattle.separation_definitions.specs.declared.window.Window.{Window}
use Rattle.diffusion_kernel.specs.declared.tables.Kernel.{Kernel}
use Rattle.page_halftoner.proofs.SlabSteps.{row_more, slab_more}
use Rattle.page_definitions.specs.Dots.{HasDots, halftone}

-- what is filled after a line
abbrev pub after : Filling → AmountTable → Filling
after f slab = record { profile = f.profile; form = f.form; count = f.count + 1; first = f.first; slab = slab }

-- a line and those that follow it, after the lines so far
behind : (lines : List (List ℕ)) (line : List ℕ) (more : List (List ℕ)) → (lines ++ line ∷ []) ++ more ≡ lines ++ (line ∷ more)
behind lines line more = append_assoc lines (line ∷ []) more

count_more : (lines : List (List ℕ)) (line : List ℕ) (n : ℕ) → length lines ≡ n → length (lines ++ line ∷ []) ≡ n + 1
count_more lines line n e = omega (arith, length-append lines (line ∷ []))

-- A line in a margin changes no row.
pub in_margin : (f : Filling) (line : List ℕ)
    → (f.count < (window_filled f).top) ⊎ ((window_filled f).top + (window_filled f).height ≤ f.count)
    → PutsLines f (after f f.slab) (line ∷ [])
in_margin f line margin d lines s =
    let h : Halftoning = joined f d in
    let rows_same : rows_done (window h) h.count ≡ rows_done (window h) (h.count + 1) = elim margin [
      | inl above ↦ omega arith
      | inr below ↦ omega arith
    ] in
    let held_same : held h ≡ rows_done (window h) (h.count + 1) - h.diffused = ap (λ n. n - h.diffused) rows_same in
    record {
      count = count_more lines line h.count s.count;
      grain = s.grain;
      inks = λ i ink more is.
          let Q : List (List ℕ) → Type 0 =
          λ ls. IsUpTo (table_of h.kernel) (planes_of h ink ls) i h.diffused (held h) (dots_in h.dots) h.top h.slab in
          let R : ℕ → Type 0 = λ n. IsUpTo (table_of h.kernel)
          (planes_of h ink ((lines ++ line ∷ []) ++ more)) i h.diffused n (dots_in h.dots) h.top h.slab in
          subst R held_same (subst Q (sym (behind lines line more)) (s.inks i ink (line ∷ more) is));
      few = omega (arith, s.few);
      blank = s.blank;
    }

-- What is known where a line is the next row of the window and was put after the filled rows.
pub record IsNextRow (f : Filling) (line : List ℕ) (y : ℕ) (slab : AmountTable) : Type 0 where
  pub place : (window_filled f).top + y ≡ f.count
  pub inside : y < (window_filled f).height
  pub takes : TakesLine f.profile f.form.kind line (window_filled f) (y - f.first) f.slab slab
  pub from : f.first ≤ y
  pub room : y < f.first + f.slab.rows
  pub rows : HoldsRows f

-- Then it is held too.
held_more : (f : Filling) (d : Diffusing) (line : List ℕ) (lines more : List (List ℕ)) (y i : ℕ) (ink : Ink) (slab : AmountTable)
    → IsNextRow f line y slab → StandsFor (joined f d) lines
    → slice_get (inks_of f.profile.inks) i ≡ Some ink
    → IsUpTo (table_of d.kernel) (planes_of (joined f d) ink ((lines ++ line ∷ []) ++ more)) i f.first (y - f.first + 1) (dots_in d.dots) d.top slab
held_more f d line lines more y i ink slab next s is =
    let h : Halftoning = joined f d in
    let n : ℕ = y - h.diffused in
    let ls : List (List ℕ) = lines ++ (line ∷ more) in
    let held_is : held h ≡ n = omega (arith, next.place, next.inside, next.from) in
    let row : h.diffused + n ≡ y = omega (arith, next.from) in
    let line_at : get_or ls ((window h).top + y) [] ≡ line =
    get_or_at lines line more [] ((window h).top + y) (omega (arith, s.count, next.place)) in
    let P : ℕ → Type 0 = λ m. IsUpTo (table_of h.kernel) (planes_of h ink ls) i h.diffused m (dots_in h.dots) h.top h.slab in
    let up = subst P held_is (s.inks i ink (line ∷ more) is) in
    let Q : List (List ℕ) → Type 0 = λ all. IsUpTo (table_of h.kernel) (planes_of h ink all) i h.diffused (n + 1) (dots_in h.dots) h.top slab in
    subst Q (sym (behind lines line more)) (row_more
    (table_of h.kernel) (planes_of h ink ls) i h.diffused n (dots_in h.dots) h.top h.slab slab up
    (λ x across. next.takes.row.are i ink is x across
    ∙ ap (λ l. amount_of h.profile h.form.kind (pixel_at h.form.kind l ((window h).left + x)) ink) (sym line_at)
    ∙ ap (λ m. (planes_of h ink ls).plain.amount m x) (sym row)) (λ r x low across. next.takes.above.same i r x
    (omega (arith, next.rows.inks, slice_get_within (inks_of f.profile.inks) i ink is)) low (omega (arith, next.from, next.room))
    (omega (arith, next.rows.width, across))))

-- A row is put into the slab.
pub in_slab : (f : Filling) (line : List ℕ) (y : ℕ) (slab : AmountTable)
    → IsNextRow f line y slab → PutsLines f (after f slab) (line ∷ [])
in_slab f line y slab next d lines s =
    let h : Halftoning = joined f d in
    let held_is : y - h.diffused + 1 ≡ rows_done (window h) (h.count + 1) - h.diffused =
    omega (arith, next.place, next.inside, next.from) in
    record {
      count = count_more lines line h.count s.count;
      grain = s.grain;
      inks = λ i ink more is.
          let R : ℕ → Type 0 = λ n. IsUpTo (table_of h.kernel)
          (planes_of h ink ((lines ++ line ∷ []) ++ more)) i h.diffused n (dots_in h.dots) h.top slab in
          subst R held_is (held_more f d line lines more y i ink slab next s is);
      few = omega (arith, held_is, next.room, next.from, next.rows.most);
      blank = s.blank;
    }

-- The ink of a place.
ink_is : (set : InkSet) (i : ℕ) (ink : Ink) → slice_get (inks_of set) i ≡ Some ink → ink_at set i ≡ ink
ink_is set i ink is = get_or_from_slice_get (inks_of set) i ink Black is

-- A row of a slab has the amounts of its row of the page, with grain.
pixel_grained : (g : InkGrain) (page : Page) (p : Printer) (i y x first : ℕ) (ink : Ink) (t : AmountTable) → g ≡ grain_of p g.grain
    → slice_get (inks_of p.inks) i ≡ Some ink → i < t.inks → y < t.rows → x < t.width
    → amount t i y x ≡ (ink_plane page p ink).amount (first + y) x
    → amount (grained_table g first t) i y x ≡ (grained_plane page p g.grain ink).amount (first + y) x
pixel_grained g page p i y x first ink t own is place row column same =
    let with_ink : Ink → ℕ = λ ink. grained g.grain (limit_of p ink) (grain_place ink x (first + y)) (amount t i y x) in
    cell_is (grained_amount g first t) t.inks t.rows t.width i y x place row column
    ∙ ap (λ h. grained_amount h first t i y x) own
    ∙ ap with_ink (ink_is p.inks i ink is)
    ∙ ap (grained g.grain (limit_of p ink) (grain_place ink x (first + y))) same

-- What is known where a slab is full, and is diffused.
pub record IsDone (f next : Filling) (d done : Diffusing) : Type 0 where
  pub full : IsFull f
  pub rows : HoldsRows f
  pub tall : d.dots.planes.rows ≡ (window_filled f).height
  pub goes_on : GoesOn f next
  pub kernel : done.kernel ≡ d.kernel
  pub grain : done.grain ≡ d.grain
  pub diffused : DiffusesSlab (table_of d.kernel) (grained_table d.grain f.first f.slab) d.top done.top f.first (dots_in d.dots) (dots_in done.dots)

-- a filling that went on
went_on : (f next : Filling) → GoesOn f next → next
    ≡ record { profile = f.profile; form = f.form; count = f.count; first = f.first + f.slab.rows; slab = next.slab }
went_on f next goes =
    let Made : Printer → PageForm → ℕ → ℕ → Type 0 = λ p form count first.
    next ≡ record { profile = p; form = form; count = count; first = first; slab = next.slab } in
    let F : ℕ → Type 0 = λ first. Made f.profile f.form f.count first in
    let C : ℕ → Type 0 = λ count. Made f.profile f.form count next.first in
    let G : PageForm → Type 0 = λ form. Made f.profile form next.count next.first in
    let P : Printer → Type 0 = λ p. Made p next.form next.count next.first in
    subst F goes.first (subst C goes.count (subst G goes.form (subst P goes.profile refl)))

-- Then no row is held.
pub slab_full : (f next : Filling) (d done : Diffusing) → IsDone f next d done
    → (lines : List (List ℕ)) → StandsFor (joined f d) lines → StandsFor (joined next done) lines
slab_full f next d done all lines s =
    let h : Halftoning = joined f d in
    let w : Window = window h in
    let n : ℕ = f.first + f.slab.rows in
    let low : n ≤ w.height = omega (arith, all.full) in
    let held_is : held h ≡ f.slab.rows = omega (arith, all.full) in
    let none : 0 ≡ rows_done w h.count - n = omega (arith, all.full) in
    let Made : Filling → Kernel → InkGrain → Type 0 = λ g k grain.
    StandsFor (joined g (record { kernel = k; grain = grain; dots = done.dots; top = done.top; failed = done.failed })) lines in
    let K : Kernel → Type 0 = λ k. Made next k done.grain in
    let G : InkGrain → Type 0 = λ grain. Made next d.kernel grain in
    let F : Filling → Type 0 = λ g. Made g d.kernel d.grain in
    subst K (sym all.kernel) (subst G (sym all.grain) (subst F (sym (went_on f next all.goes_on)) (record {
      count = s.count;
      grain = s.grain;
      inks = λ i ink more is.
          let p : InkPlanes = planes_of h ink (lines ++ more) in
          let P : ℕ → Type 0 = λ m. IsUpTo (table_of h.kernel) p i h.diffused m (dots_in h.dots) h.top h.slab in
          let up = subst P held_is (s.inks i ink more is) in
          let there : i < f.slab.inks = omega (arith, all.rows.inks, slice_get_within (inks_of h.profile.inks) i ink is) in
          let page : Page = record { form = h.form; lines = lines ++ more } in
          let now = slab_more (table_of h.kernel) p i h.diffused f.slab.rows f.slab (grained_table d.grain f.first f.slab)
          next.slab h.top done.top (dots_in h.dots) (dots_in done.dots) all.diffused up
          (λ y x row column. pixel_grained d.grain page h.profile i y x f.first ink f.slab s.grain is there row
          (omega (arith, all.rows.width, column)) (up.amounts y x row column))
          there all.rows.width all.rows.some low all.tall all.rows.whole in
          let R : ℕ → Type 0 = λ m. IsUpTo (table_of h.kernel) p i n m (dots_in done.dots) done.top next.slab in
          subst R none now;
      few = omega (arith, none);
      blank = λ i r x below inside.
          let size : done.dots.planes.rows ≡ h.dots.planes.rows = all.diffused.size.rows in
          all.diffused.others i r x (omega (arith, size)) (inr below) ∙ s.blank i r x (omega arith) (omega (arith, size));
    })))

-- A grain that is a printer's is that of the same printer.
pub own_grain : (p q : Printer) (g : InkGrain) (n : ℕ) → q ≡ p → g ≡ grain_of p n → g ≡ grain_of q g.grain
own_grain p q g n same is =
    is ∙ ap (λ m. grain_of p m) (sym (ap (λ (h : InkGrain). h.grain) is)) ∙ ap (λ r. grain_of r g.grain) (sym same)

-- Before the first line no row is diffused or held.
pub at_top : (h : Halftoning) → h.count ≡ 0 → h.diffused ≡ 0 → h.grain ≡ grain_of h.profile h.grain.grain
    → ((i t n : ℕ) → top_of (edges_of h.top i) t n ≡ pos 0) → ((i y x : ℕ) → (dots_in h.dots).dot i y x ≡ false)
    → StandsFor h []
at_top h none first own zeros blank =
    let held_none : 0 ≡ held h = omega (arith, none, first) in
    record {
      count = sym none;
      grain = own;
      inks = λ i ink more is.
          let k : Table = table_of h.kernel in
          let p : InkPlanes = planes_of h ink more in
          let top : Errors → Type 0 = λ e. IsBelow (edges_of h.top i) e in
          let start : IsUpTo k p i 0 0 (dots_in h.dots) h.top h.slab = record {
            dots = λ y x low across. absurd (omega arith);
            errors_are = λ some t n two. above k p.grained t n two ∙ sym (zeros i t n);
            amounts = λ y x low across. absurd (omega arith);
          } in
          let D : ℕ → Type 0 = λ n. IsUpTo k p i n 0 (dots_in h.dots) h.top h.slab in
          let R : ℕ → Type 0 = λ n. IsUpTo k p i h.diffused n (dots_in h.dots) h.top h.slab in
          subst R held_none (subst D (sym first) start);
      few = omega (arith, held_none);
      blank = λ i y x low inside. blank i y x;
    }
  where
    above : (k : Table) (p : Plane) (t n : ℕ) → t < 2 → errors k p no_top (0 + t) n ≡ pos 0
    above k p zero n two = (errors_top k p no_top n).0
    above k p (suc zero) n two = (errors_top k p no_top n).1
    above k p (suc (suc t)) n two = absurd (omega arith)

-- ---- the last row

-- A line that is the next row is the last one then.
pub ends_with : (f : Filling) (line : List ℕ) (y : ℕ) (slab : AmountTable) → IsNextRow f line y slab
    → EndsWith (after f slab) line
ends_with f line y slab next = record {
  last = λ n some.
      let here : y - f.first ≡ n = omega (arith, some, next.place, next.inside, next.from) in
      let Q : ℕ → Type 0 = λ m. HasLine f.profile f.form.kind line (window_filled f) m slab in
      subst Q here next.takes.row;
}

-- a line once more after its repeats
pub repeats_more : (lines : List (List ℕ)) (n : ℕ) (line : List ℕ)
    → (lines ++ replicate n line) ++ line ∷ [] ≡ lines ++ replicate (n + 1) line
repeats_more lines n line =
    let next : suc n ≡ n + 1 = omega arith in
    append_assoc lines (replicate n line) (line ∷ [])
    ∙ ap (λ (ls : List (List ℕ)). lines ++ ls) (once_more n ∙ ap (λ m. replicate m line) next)
  where
    once_more : (m : ℕ) → replicate m line ++ line ∷ [] ≡ replicate (suc m) line
    once_more zero = refl
    once_more (suc m) = ap (λ (ls : List (List ℕ)). line ∷ ls) (once_more m)

-- the same rows of the same page have the same window
pub same_window : (f g : Filling) → IsSameRows f g → window_filled g ≡ window_filled f
same_window f g same = ap (λ form. window_of form g.profile) same.form ∙ ap (λ p. window_of f.form p) same.profile

-- After the last line each row of the window is before a slab that is not full.
pub all_diffused : (f : Filling) → HoldsRows f → (IsFull f → ⊥) → f.count ≡ f.form.height → f.first ≡ (window_filled f).height
all_diffused f rows room count =
    let all : rows_done (window_filled f) f.count ≡ (window_filled f).height = omega (arith, count) in
    elim (cases_lt f.first (window_filled f).height) [
      | inl less ↦ absurd (room (omega (arith, all, rows.inside less, rows.room)))
      | inr done ↦ omega (arith, all, rows.from)
    ]

-- After the last line of the page each row of the window is diffused, and planes that have the dots so far have those
-- of the halftone.
pub whole_page : (h : Halftoning) (lines : List (List ℕ)) (t : DotTable) → StandsFor h lines → h.diffused ≡ (window h).height
    → HasRoom h.form h.profile (dots_in h.dots) → HasSizeOf h.dots.planes t
    → ((i y x : ℕ) → i < t.inks → y < t.rows → x < t.width → dot t i y x ≡ (dots_in h.dots).dot i y x)
    → HasDots h.profile (halftone (record { form = h.form; lines = lines })
    h.profile (screening_of h.kernel h.grain.grain)) t.width t.rows t.inks (dot t)
whole_page h lines t s all room size same = record {
  width_is = size.width ∙ room.width;
  rows_is = size.rows ∙ room.rows;
  inks_is = size.inks ∙ room.inks;
  dots = λ i y x ink is low inside.
      let up = s.inks i ink [] is in
      let Q : List (List ℕ) → Type 0 = λ ls. (dots_in h.dots).dot i y x
      ≡ on (table_of h.kernel) (planes_of h ink ls).grained (errors (table_of h.kernel) (planes_of h ink ls).grained no_top) y x in
      same i y x (omega (arith, size.inks, room.inks, slice_get_within (inks_of h.profile.inks) i ink is))
      (omega (arith, size.rows, room.rows, low)) (omega (arith, size.width, room.width, inside))
      ∙ subst Q (append-nil lines) (up.dots y x (omega (arith, all)) inside);
}

-- raw rows of one separator, as many, have tables of one size
pub same_size : (old new : RawRows) → new.rows ≡ old.rows → new.separator ≡ old.separator → HasSizeAs (amounts_of old) (amounts_of new)
same_size old new rows separator = record {
  width = ap (λ (s : Separator). s.window.width) separator;
  rows = rows;
  inks = ap (λ (s : Separator). length (inks_of s.inks)) separator;
}
