-- What the emulator stands for after a command.
use Rattle.std.proofs.Common.{◌≡◌, ℕ, suc, ◌+◌, ◌-◌, ◌/◌, ◌<◌, ◌≤◌, Bool, true, false, nat_le, nat_lt, List, [], ◌∷◌, ◌++◌, length}
use Rattle.std.proofs.Common.{refl, ◌∙◌, sym, ap, arith, subst, append-nil, length-append}
use Rattle.std.specs.Prelude.{Option, Some, None, Ok, is_some, is_none, if◌then◌else◌}
use Rattle.std.specs.List.{AllByRecursion, list_any}
use Rattle.std.proofs.lemmas.Bool.{false≢true, lt-ltb, ltb-false, ltb-true}
use Rattle.printer_definitions.specs.Printer.{Printer, column_step, row_step}
use Rattle.escp2_definitions.specs.Commands.{last_column}
use Rattle.escp2_definitions.specs.declared.command.RasterHead.{RasterHead}
use Rattle.escp2_definitions.specs.declared.command.Command.{Command}
use Rattle.escp2_definitions.specs.declared.command.Command.TheVariants as c
use Rattle.escp2_definitions.specs.declared.stops.EmulatorFault.TheVariants.{Backward, NoUnit, OffSheet, Overprint}
use Rattle.escp2_definitions.specs.Machine.{Dot, Machine, after, bottom_margin, first_refusal, given, has_dots}
use Rattle.escp2_definitions.specs.Machine.{overprints, page_length, refusals, refuse}
use Rattle.dot_planes.specs.Tables.{DotTable}
use Rattle.dot_emulator.specs.declared.state.State.{State}
use Rattle.dot_emulator.specs.Current.{HasHeight, IsBlankPast, inks_of, rows_or, width_of}
use Rattle.dot_emulator.specs.Pages.{sheet_rows}
use Rattle.dot_emulator.specs.declared.firing.Raster.{Raster}
use Rattle.dot_emulator.specs.Firing.{Grid, HasRows, IsAbove, PlanesHave, fired, late_fault}
use Rattle.dot_emulator.specs.Places.{Placed, grid_of}
use Rattle.dot_emulator.specs.Runs.{AreTaken, Emulates, LaidIn, Runs, ShowsDots, Taken}
use Rattle.dot_emulator.specs.declared.emulator.Emulator.{Emulator}
use Rattle.dot_emulator.specs.declared.raster.Steps.{Steps}
use Rattle.dot_emulator.specs.declared.sheet.Sheet.{Sheet}
use Rattle.dot_emulator.specs.Steps.{AreStepsOf}
use Rattle.printer_definitions.specs.Inks.{ink_place}
use Rattle.printer_definitions.specs.declared.inks.Ink.{Ink}
use Rattle.printer_definitions.specs.declared.inks.Ink.TheVariants.{Black, Cyan, Magenta, Yellow}
use Rattle.dot_emulator.specs.Sheets.{HoldsDots, HasPlaces, IsOnGrid}
use Rattle.dot_emulator.proofs.OnGrid.{all-append, fired-on-grid, wider}
use Rattle.dot_emulator.specs.States.{IsStep, is_plain, machine_of}

some-is-none : {A : Type 0} {X : Type 0} (x : X) → Some x ≡ None → A
some-is-none x e = cc

-- there are planes exactly where the sheet has a dot
pub shown-dots : (p : Printer) (m : Machine) (planes : Option DotTable) → ShowsDots p m planes → is_some planes ≡ has_dots m
shown-dots p m None none = sym (ap (λ (ds : List Dot). nat_lt 0 (length ds)) none)
shown-dots p m (Some t) shows = sym shows.0

pub plain-gives : (p : Printer) (m : Machine) (command : Command) → is_plain command ≡ true → given p m command ≡ []
plain-gives p m c.Init e = refl
plain-gives p m c.Graphics e = refl
plain-gives p m (c.Unit n) e = refl
plain-gives p m (c.MicroWeave n) e = refl
plain-gives p m (c.OneWay n) e = refl
plain-gives p m (c.Length n) e = refl
plain-gives p m (c.Margins top bottom) e = refl
plain-gives p m (c.DownTo n) e = refl
plain-gives p m (c.DownBy n) e = refl
plain-gives p m (c.Across n) e = refl
plain-gives p m c.Return e = refl
plain-gives p m c.Eject e = absurd (false≢true e)
plain-gives p m (c.Colour ink) e = refl
plain-gives p m (c.Raster header) e = absurd (false≢true e)

-- where the sheet has a dot, a plain command leaves the page, the columns and the dots
pub record IsKept (p : Printer) (m : Machine) (command : Command) (rows : List ℕ) : Type 0 where
  pub page : (after p m command rows).page ≡ m.page
  pub columns : (after p m command rows).columns ≡ m.columns
  pub dots : (after p m command rows).dots ≡ m.dots

init-refused : {A : Type 0} (m : Machine) → has_dots m ≡ true → (if has_dots m then Some Backward else None) ≡ None → A
init-refused m some none = some-is-none Backward (sym (ap (λ b. if b then Some Backward else None) some) ∙ none)

length-refused : {A : Type 0} (m : Machine) (a b : Bool) → has_dots m ≡ true
    → (if a then Some NoUnit else (if has_dots m then Some Backward else (if b then Some OffSheet else None))) ≡ None → A
length-refused m true b some none = some-is-none NoUnit none
length-refused m false b some none =
    some-is-none Backward (sym (ap (λ d. if d then Some Backward else (if b then Some OffSheet else None)) some) ∙ none)

pub kept : (p : Printer) (m : Machine) (command : Command) (rows : List ℕ) → is_plain command ≡ true → has_dots m ≡ true
    → first_refusal (refusals p m command rows) ≡ None → IsKept p m command rows
kept p m c.Init rows e some none = init-refused m some none
kept p m c.Graphics rows e some none = record { page = refl; columns = refl; dots = refl }
kept p m (c.Unit n) rows e some none = record { page = refl; columns = refl; dots = refl }
kept p m (c.MicroWeave n) rows e some none = record { page = refl; columns = refl; dots = refl }
kept p m (c.OneWay n) rows e some none = record { page = refl; columns = refl; dots = refl }
kept p m (c.Length n) rows e some none = length-refused m (is_none m.unit) _ some none
kept p m (c.Margins top bottom) rows e some none = record { page = refl; columns = refl; dots = refl }
kept p m (c.DownTo n) rows e some none = record { page = refl; columns = refl; dots = refl }
kept p m (c.DownBy n) rows e some none = record { page = refl; columns = refl; dots = refl }
kept p m (c.Across n) rows e some none = record { page = refl; columns = refl; dots = refl }
kept p m c.Return rows e some none = record { page = refl; columns = refl; dots = refl }
kept p m c.Eject rows e some none = absurd (false≢true e)
kept p m (c.Colour ink) rows e some none = record { page = refl; columns = refl; dots = refl }
kept p m (c.Raster header) rows e some none = absurd (false≢true e)

-- a sheet without dots stays without dots
no-dots : (p : Printer) (m : Machine) (command : Command) (rows : List ℕ)
    → is_plain command ≡ true → m.dots ≡ [] → (after p m command rows).dots ≡ []
no-dots p m c.Init rows e none = refl
no-dots p m c.Graphics rows e none = none
no-dots p m (c.Unit n) rows e none = none
no-dots p m (c.MicroWeave n) rows e none = none
no-dots p m (c.OneWay n) rows e none = none
no-dots p m (c.Length n) rows e none = none
no-dots p m (c.Margins top bottom) rows e none = none
no-dots p m (c.DownTo n) rows e none = none
no-dots p m (c.DownBy n) rows e none = none
no-dots p m (c.Across n) rows e none = none
no-dots p m c.Return rows e none = none
no-dots p m c.Eject rows e none = absurd (false≢true e)
no-dots p m (c.Colour ink) rows e none = none
no-dots p m (c.Raster header) rows e none = absurd (false≢true e)

pub plain-shows : (p : Printer) (m : Machine) (command : Command) (rows : List ℕ) (planes : Option DotTable) → is_plain command ≡ true
    → first_refusal (refusals p m command rows) ≡ None → ShowsDots p m planes → ShowsDots p (after p m command rows) planes
plain-shows p m command rows None e none shows = no-dots p m command rows e shows
plain-shows p m command rows (Some t) e none shows =
    let stays : IsKept p m command rows = kept p m command rows e shows.0 none in
    let D : List Dot → Type 0 = λ dots. HoldsDots (column_step p) (row_step p) (after p m command rows).columns dots t in
    let C : ℕ → Type 0 = λ columns. HoldsDots (column_step p) (row_step p) columns m.dots t in
    (ap (λ (ds : List Dot). nat_lt 0 (length ds)) stays.dots ∙ shows.0, subst D (sym stays.dots) (subst C (sym stays.columns) shows.1))

-- ---- the current planes

-- the state after a plain command, where there are planes
pub record IsStill (s0 s : State) : Type 0 where
  pub page : s.page ≡ s0.page
  pub columns : s.columns ≡ s0.columns

pub still : (p : Printer) (d : Dot) (s0 s : State) (command : Command)
    → is_plain command ≡ true → IsStep p (machine_of s0 (d ∷ [])) command (Ok s) → IsStill s0 s
still p d s0 s command e step =
    let m : Machine = machine_of s0 (d ∷ []) in
    let stays : IsKept p m command [] = kept p m command [] e refl (step []).0 in
    record {
      page = ap (λ (n : Machine). n.page) (step []).1 ∙ stays.page;
      columns = ap (λ (n : Machine). n.columns) (step []).1 ∙ stays.columns;
    }

pub rows-still : (planes : Option DotTable) (s0 s : State) (row : ℕ) → (is_some planes ≡ true → IsStill s0 s)
    → rows_or (sheet_rows s0.page row) planes ≡ sheet_rows s0.page row → rows_or (sheet_rows s.page row) planes ≡ sheet_rows s.page row
rows-still None s0 s row stays is = refl
rows-still (Some t) s0 s row stays is = is ∙ ap (λ page. sheet_rows page row) (sym (stays refl).page)

pub blank-still : (planes : Option DotTable) (s0 s : State)
    → (is_some planes ≡ true → IsStill s0 s) → IsBlankPast s0.columns planes → IsBlankPast s.columns planes
blank-still None s0 s stays blank = λ ink y x few low past. refl
blank-still (Some t) s0 s stays blank = λ ink y x few low past. blank ink y x few low (let same = (stays refl).columns in omega (arith, same))

-- ---- rasters

pub planes-have : (p : Printer) (m : Machine) (planes : Option DotTable) → ShowsDots p m planes → PlanesHave (grid_of p m) m.dots planes
planes-have p m None none = ap (λ (ds : List Dot). length ds) none
planes-have p m (Some t) shows = shows.1.places

-- the refusals that depend on the dots, from the raster's place
pub late : (p : Printer) (m : Machine) (header : RasterHead) (r : Raster) (rows : List ℕ) → Placed p m header r
    → first_refusal (refusals p m (c.Raster header) rows) ≡ late_fault (grid_of p m) r rows m.dots
late p m header r rows placed =
    placed.left rows
    ∙ ap (λ (new : List Dot). first_refusal (refuse (list_any (λ d. nat_le (bottom_margin m) d.y) new) OffSheet
    ∷ refuse (overprints m.dots new) Overprint ∷ [])) (placed.fires rows)

-- the planes of a sheet have the rows down to its bottom margin
pub rows-high : (planes : Option DotTable) (height end : ℕ) → rows_or height planes ≡ height → end ≤ height → end ≤ rows_or end planes
rows-high None height end rows low = omega arith
rows-high (Some t) height end rows low = omega (arith, rows)

-- where neither refusal holds, no dot is at or below the bottom margin
pub above-margin : (off over : Bool) → first_refusal (refuse off OffSheet ∷ refuse over Overprint ∷ []) ≡ None → off ≡ false
above-margin true over none = some-is-none OffSheet none
above-margin false over none = refl

some-more : (xs ys : List Dot) → nat_lt 0 (length ys) ≡ true → nat_lt 0 (length (xs ++ ys)) ≡ true
some-more xs ys some = let more = ltb-true 0 (length ys) some in lt-ltb 0 (length (xs ++ ys)) (omega (arith, length-append xs ys))

empty-of : (xs : List Dot) → nat_lt 0 (length xs) ≡ false → xs ≡ []
empty-of [] none = refl
empty-of (x ∷ xs) none = absurd (let few = ltb-false 0 (suc (length xs)) none in omega arith)

old-inside : (p : Printer) (m : Machine) (columns height : ℕ) (planes : Option DotTable)
    → ShowsDots p m planes → rows_or height planes ≡ height
    → m.columns ≤ columns → AllByRecursion (IsOnGrid (column_step p) (row_step p) columns height) m.dots
old-inside p m columns height None none rows more = let P : List Dot
    → Type 0 = AllByRecursion (IsOnGrid (column_step p) (row_step p) columns height) in subst P (sym none) tt
old-inside p m columns height (Some t) shows rows more =
    let P : ℕ → Type 0 = λ n. AllByRecursion (IsOnGrid (column_step p) (row_step p) columns n) m.dots in
    subst P rows (wider (column_step p) (row_step p) m.columns columns t.rows m.dots more shows.1.inside)

-- a raster with dots
pub laid-shows : (p : Printer) (m : Machine) (header : RasterHead)
    (r : Raster) (rows : List ℕ) (planes new : Option DotTable) (height : ℕ) → Placed p m header r → HasRows r rows
    → IsAbove (grid_of p m) r rows → ShowsDots p m planes → rows_or height planes ≡ height
    → r.end ≤ height → (n : ℕ) → rows_or n new ≡ height → LaidIn (grid_of p m) r rows m.dots new
    → nat_lt 0 (length (fired (grid_of p m) r rows)) ≡ true → ShowsDots p (after p m (c.Raster header) rows) new
laid-shows p m header r rows planes new height placed fits above shows is end_fits n new_rows laid some =
    let g : Grid = grid_of p m in
    let m' : Machine = after p m (c.Raster header) rows in
    let t : DotTable = laid.table in
    let S : Option DotTable → Type 0 = λ o. ShowsDots p m' o in
    let dots_are : m'.dots ≡ m.dots ++ fired g r rows = ap (λ (ds : List Dot). m.dots ++ ds) (placed.fires rows) in
    let D : List Dot → Type 0 = λ ds. HoldsDots (column_step p) (row_step p) m'.columns ds t in
    let height_is : t.rows ≡ height = ap (λ (o : Option DotTable). rows_or n o) (sym laid.is) ∙ new_rows in
    let P : ℕ → Type 0 = λ n. AllByRecursion (IsOnGrid (column_step p) (row_step p) m'.columns n) (m.dots ++ fired g r rows) in
    let n_is : r.header.n ≡ header.n = ap (λ (h : RasterHead). h.n) placed.header_is in
    let fits_columns : r.x + r.header.n ≤ m'.columns = omega (arith, placed.column, n_is) in
    subst S (sym laid.is) (
      ap (λ (ds : List Dot). nat_lt 0 (length ds)) dots_are ∙ some-more m.dots (fired g r rows) some,
      subst D (sym dots_are) (record {
        places = laid.has;
        inside = subst P (sym height_is) (all-append (IsOnGrid (column_step p) (row_step p) m'.columns height) m.dots (fired g r rows)
            (old-inside p m m'.columns height planes shows is (omega arith))
            (fired-on-grid g r rows m'.columns height placed.stands fits fits_columns end_fits above));
      }),
    )

-- a raster without dots
pub blank-shows : (p : Printer)
    (m : Machine) (header : RasterHead) (r : Raster) (rows : List ℕ) (planes : Option DotTable) → Placed p m header r
    → nat_lt 0 (length (fired (grid_of p m) r rows)) ≡ false → ShowsDots p m planes → ShowsDots p (after p m (c.Raster header) rows) planes
blank-shows p m header r rows planes placed none shows = by_planes planes shows
  where
    dots_are : (after p m (c.Raster header) rows).dots ≡ m.dots
    dots_are = ap (λ (ds : List Dot). m.dots ++ ds) (placed.fires rows ∙ empty-of (fired (grid_of p m) r rows) none) ∙ append-nil m.dots

    by_planes : (o : Option DotTable) → ShowsDots p m o → ShowsDots p (after p m (c.Raster header) rows) o
    by_planes None nothing = dots_are ∙ nothing
    by_planes (Some t) has =
        let D : List Dot → Type 0 = λ ds. HoldsDots (column_step p) (row_step p) (after p m (c.Raster header) rows).columns ds t in (
          ap (λ (ds : List Dot). nat_lt 0 (length ds)) dots_are ∙ has.0,
          subst D (sym dots_are) (record {
            places = has.1.places;
            inside = wider (column_step p) (row_step p) m.columns _ t.rows m.dots (omega arith) has.1.inside;
          }),
        )

-- ---- planes that are taken

-- spare planes of the sheet's rows
pub spare-taken : (n rows : ℕ) (spare : Option DotTable) (t : DotTable) → spare ≡ Some t → HasHeight n spare → n ≡ rows
    → inks_of spare ≡ 4 → width_of spare ≡ last_column → IsBlankPast 0 spare → Taken rows None t
spare-taken n rows None t is height n_is four wide blank = absurd height
spare-taken n rows (Some o) t is height n_is four wide blank =
    let T : DotTable → Type 0 = Taken rows None in
    let same : o ≡ t = cc in
    subst T same (record { inks = four; width = wide; height = height ∙ n_is; taken = blank })

pub blank-taken : (old : Option DotTable) (t : DotTable) (columns : ℕ)
    → AreTaken old t → IsBlankPast columns old → IsBlankPast columns (Some t)
blank-taken None t columns taken blank = λ ink y x few low past. taken ink y x few low (omega arith)
blank-taken (Some o) t columns taken blank =
    let P : DotTable → Type 0 = λ s. IsBlankPast columns (Some s) in
    subst P (sym taken) blank

-- the place of an ink among four planes
in-four : (t : DotTable) (ink : Ink) → t.inks ≡ 4 → ink_place ink < t.inks
in-four t Black four = omega (arith, four)
in-four t Cyan four = omega (arith, four)
in-four t Magenta four = omega (arith, four)
in-four t Yellow four = omega (arith, four)

pub places-taken : (g : Grid) (dots : List Dot) (old : Option DotTable) (t : DotTable)
    → t.inks ≡ 4 → AreTaken old t → PlanesHave g dots old → HasPlaces g.column g.row dots t
places-taken g [] None t four taken have = λ ink y x low. taken (ink_place ink) y x (in-four t ink four) low (omega arith)
places-taken g (d ∷ dots) None t four taken have = absurd (omega arith)
places-taken g dots (Some o) t four taken have =
    let P : DotTable → Type 0 = HasPlaces g.column g.row dots in
    subst P (sym taken) have

has-taken : (p : Printer) (m : Machine) (old : Option DotTable) (t : DotTable)
    → t.inks ≡ 4 → AreTaken old t → ShowsDots p m old → HoldsDots (column_step p) (row_step p) m.columns m.dots t
has-taken p m None t four taken shows =
    let P : List Dot → Type 0 = λ ds. HoldsDots (column_step p) (row_step p) m.columns ds t in
    subst P (sym shows) (record {
      places = λ ink y x low. taken (ink_place ink) y x (in-four t ink four) low (omega arith);
      inside = tt;
    })
has-taken p m (Some o) t four taken shows =
    let P : DotTable → Type 0 = λ s. HoldsDots (column_step p) (row_step p) m.columns m.dots s in
    subst P (sym taken) shows.1

-- ---- a sheet is given

pub record IsEjected (p : Printer) (m : Machine) (old new : Emulator) (sheet : Sheet) : Type 0 where
  pub step : IsStep p (machine_of old.state m.dots) c.Eject (Ok new.state)
  pub steps : new.steps ≡ old.steps
  pub none : new.planes ≡ None
  pub rows : sheet.rows ≡ sheet_rows old.state.page old.steps.row
  pub columns : sheet.columns ≡ old.state.columns
  pub inks : sheet.planes.inks ≡ 4
  pub taken : AreTaken old.planes sheet.planes

pub eject-runs : (p : Printer) (m : Machine) (rows : List ℕ) (old new : Emulator) (sheet : Sheet)
    → Emulates p old m → IsEjected p m old new sheet → Runs p m c.Eject rows old new (Ok (Some sheet))
eject-runs p m rows old new sheet shows e =
    let P : Machine → Type 0 = λ n. IsStep p n c.Eject (Ok new.state) in
    let step = subst P shows.state e.step in
    let S : Option DotTable → Type 0 = λ o. ShowsDots p (after p m c.Eject rows) o in
    let A : Steps → Type 0 = AreStepsOf p in
    let page : old.state.page ≡ m.page = ap (λ (n : Machine). n.page) shows.state in (
      (step rows).0,
      (
        record { rows = (page_length m + row_step p - 1) / row_step p; columns = m.columns; dots = m.dots },
        refl,
        record {
          rows = e.rows ∙ ap (λ o. sheet_rows o old.steps.row) page ∙ ap (λ n. sheet_rows m.page n) shows.steps.row;
          columns = e.columns ∙ ap (λ (n : Machine). n.columns) shows.state;
          dots = has-taken p m old.planes sheet.planes e.inks e.taken shows.dots;
        },
      ),
      record {
        steps = subst A (sym e.steps) shows.steps;
        state = (step rows).1;
        dots = subst S (sym e.none) refl;
      },
    )

-- ---- a raster is fired

pub record IsFired (p : Printer) (m : Machine) (header : RasterHead) (r : Raster) (rows : List ℕ) (old new : Emulator) : Type 0 where
  pub placed : Placed p m header r
  pub fits : HasRows r rows
  pub none : late_fault (grid_of p m) r rows m.dots ≡ None
  pub steps : new.steps ≡ old.steps
  pub step : machine_of new.state (after p m (c.Raster header) rows).dots ≡ after p m (c.Raster header) rows

-- the machine after a raster, from the state that the code takes
pub raster-step : (p : Printer) (m : Machine)
    (header : RasterHead) (r : Raster) (rows : List ℕ) (old : Emulator) (s : State) → Emulates p old m → r.header ≡ header
    → machine_of s (after p (machine_of old.state m.dots) (c.Raster r.header) rows).dots
    ≡ after p (machine_of old.state m.dots) (c.Raster r.header) rows
    → machine_of s (after p m (c.Raster header) rows).dots ≡ after p m (c.Raster header) rows
raster-step p m header r rows old s shows header_is step =
    let H : RasterHead → Type 0 = λ h. machine_of s (after p (machine_of old.state m.dots) (c.Raster h) rows).dots
    ≡ after p (machine_of old.state m.dots) (c.Raster h) rows in
    let M : Machine → Type 0 = λ n. machine_of s (after p n (c.Raster header) rows).dots ≡ after p n (c.Raster header) rows in
    subst M shows.state (subst H header_is step)

pub fire-runs : (p : Printer) (m : Machine) (header : RasterHead) (r : Raster) (rows : List ℕ) (old new : Emulator)
    → Emulates p old m → IsFired p m header r rows old new
    → ShowsDots p (after p m (c.Raster header) rows) new.planes → Runs p m (c.Raster header) rows old new (Ok None)
fire-runs p m header r rows old new shows f dots =
    let A : Steps → Type 0 = AreStepsOf p in
    (late p m header r rows f.placed ∙ f.none, refl, record { steps = subst A (sym f.steps) shows.steps; state = f.step; dots = dots })
