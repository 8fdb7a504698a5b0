-- Strokes over planes are those of the halftone that the planes show.
use Rattle.std.proofs.Common.{◌≡◌, ℕ, zero, suc, ◌+◌, ◌-◌, ◌*◌, ◌<◌, ◌≤◌, ◌||◌, Bool, true, false, cond, List, [], ◌∷◌, ◌++◌, length, map}
use Rattle.std.proofs.Common.{filter, replicate, Option, Some, None, refl, sym, ◌∙◌, ap, arith}
use Rattle.std.specs.Prelude.{slice_get}
use Rattle.std.specs.List.{AllByRecursion, flat_map, list_any}
use Rattle.std.proofs.Math.Nat.{mul-le-mul_left, mul-le-mul_right}
use Rattle.std.proofs.lemmas.List.{length-map, length-replicate}
use Rattle.base_definitions.specs.Counting.{count_from}
use Rattle.base_definitions.specs.Limits.{most_columns, most_rows}
use Rattle.dot_planes.specs.Tables.{DotTable, dot}
use Rattle.escp2_definitions.specs.declared.command.Command.TheVariants as c
use Rattle.page_definitions.specs.Dots.{Halftone}
use Rattle.page_definitions.specs.PageBytes.{fired_row, page_coding}
use Rattle.page_definitions.specs.Strokes.{Spoken, Stroke, down_by, fires, has_dot, ink_commands, inks_commands, page_commands, prologue}
use Rattle.page_definitions.specs.Strokes.{raster_header, say, strokes_commands}
use Rattle.page_laws.specs.Sized.{Sized}
use Rattle.page_laws.proofs.Numbers.{form-sized, row_units-some}
use Rattle.page_laws.proofs.Passes.{count_from-len}
use Rattle.printer_definitions.specs.declared.inks.Ink.{Ink}
use Rattle.printer_definitions.specs.Inks.{inks_of}
use Rattle.printer_definitions.specs.Printer.{Printer, row_units}
use Rattle.pwg_definitions.specs.declared.pages.PageForm.{PageForm}
use Rattle.pwg_definitions.specs.Header.{IsWanted}
use Rattle.separation_definitions.specs.CanPrint.{CanPrint}
use Rattle.separation_definitions.specs.Windows.{wanted_by, window_of}
use Rattle.page_writer.specs.Heads.{HeadStrokes, place_in, stroke_over, stroke_rows, strokes_over}
use Rattle.page_writer.specs.Passes.{plane_row}
use Rattle.page_writer.specs.Rows.{rows_commands}
use Rattle.page_writer.specs.Shows.{Shows}
use Rattle.page_writer.proofs.Inks.{place_is}

-- ---- planes over a page's window

-- Planes are no wider than a row of a raster, and end on a sheet of no more than the greatest length.
pub record IsOnSheet (p : Printer) (t : DotTable) : Type 0 where
  pub columns : t.width ≤ most_columns
  pub sheet : (p.top + t.rows) * row_units p ≤ most_rows
  pub low : p.top + t.rows ≤ most_rows

pub on_sheet : (p : Printer) (t : DotTable) (f : PageForm) → CanPrint p → IsWanted (wanted_by p) f
    → t.width ≡ (window_of f p).width → t.rows ≡ (window_of f p).height → IsOnSheet p t
on_sheet p t f can wanted width rows =
    let h : Halftone = record { width = t.width; height = t.rows; dot = λ ink y x. dot t 0 y x } in
    let size : Sized p h f.height = form-sized p h f can wanted width rows in
    let less : (p.top + t.rows) * row_units p ≤ f.height * row_units p = mul-le-mul_right (row_units p) size.low in
    let units : (p.top + t.rows) * 1 ≤ (p.top + t.rows) * row_units p = mul-le-mul_left (p.top + t.rows) (row_units-some p can) in
    record { columns = size.most_width; sheet = omega (arith, less, size.short); low = omega (arith, units, less, size.short) }

-- a row is as wide as its plane
pub plane_row-len : (t : DotTable) (place : ℕ) (row : Option ℕ) → length (plane_row t place row) ≡ t.width
plane_row-len t place None = length-replicate {A = Bool} t.width false
plane_row-len t place (Some y) = length-map (count_from 0 t.width) (dot t place y) ∙ count_from-len 0 t.width

-- ---- the planes' rows are those of the halftone

-- two tables of numbers agree below a bound
pub map-counted : {X : Type 0} (f g : ℕ → X) (n many : ℕ)
    → ((x : ℕ) → x < n + many → f x ≡ g x) → map f (count_from n many) ≡ map g (count_from n many)
map-counted f g n zero same = refl
map-counted f g n (suc many) same =
    ap (λ x. x ∷ map f (count_from (n + 1) many)) (same n (omega arith))
    ∙ ap (λ xs. g n ∷ xs) (map-counted f g (n + 1) many (λ x low. same x (omega arith)))

-- a row that a nozzle fires
pub plane_row-is : (p : Printer) (t : DotTable) (h : Halftone) (place : ℕ) (ink : Ink)
    → Shows p t h → slice_get (inks_of p.inks) place ≡ Some ink
    → (row : Option ℕ) → ((y : ℕ) → row ≡ Some y → y < h.height) → fired_row h ink row ≡ plane_row t place row
plane_row-is p t h place ink shows is None on = ap (λ n. replicate n false) (sym shows.width_is)
plane_row-is p t h place ink shows is (Some y) on =
    ap (λ n. map (h.dot ink y) (count_from 0 n)) (sym shows.width_is)
    ∙ map-counted (h.dot ink y) (dot t place y) 0 t.width
    (λ x low. sym (shows.dots place y x ink is (on y refl) (omega (arith, low, shows.width_is))))

-- ---- strokes with the same rows

-- Both strokes begin on one row, and fire the same rows of each of these inks.
pub record IsSame (inks : List Ink) (a b : Stroke) : Type 0 where
  pub start : a.start ≡ b.start
  pub rows : AllByRecursion (λ ink. a.rows ink ≡ b.rows ink) inks

-- what holds at each place of a list of inks
each-ink : (P : Ink → Type 0) (inks : List Ink)
    → ((place : ℕ) (ink : Ink) → slice_get inks place ≡ Some ink → P ink) → AllByRecursion P inks
each-ink P [] each = tt
each-ink P (ink ∷ inks) each = (each 0 ink refl, each-ink P inks (λ place other is. each (suc place) other is))

-- such strokes have the same commands
same-inks : (p : Printer) (width coded : ℕ) (a b : Stroke) (inks : List Ink) → AllByRecursion (λ ink. a.rows ink ≡ b.rows ink) inks
    → flat_map (ink_commands p width coded a) inks ≡ flat_map (ink_commands p width coded b) inks
same-inks p width coded a b [] same = refl
same-inks p width coded a b (ink ∷ inks) same =
    ap (λ rows. rows_commands (raster_header p width coded) ink rows ++ flat_map (ink_commands p width coded a) inks) same.0
    ∙ ap (λ js. ink_commands p width coded b ink ++ js) (same-inks p width coded a b inks same.1)

-- and both have a dot, or neither has
same-fires : (a b : Stroke) (inks : List Ink) → AllByRecursion (λ ink. a.rows ink ≡ b.rows ink) inks
    → list_any (λ ink. has_dot (a.rows ink)) inks ≡ list_any (λ ink. has_dot (b.rows ink)) inks
same-fires a b [] same = refl
same-fires a b (ink ∷ inks) same =
    ap (λ rows. has_dot rows || list_any (λ ink. has_dot (a.rows ink)) inks) same.0
    ∙ ap (λ x. has_dot (b.rows ink) || x) (same-fires a b inks same.1)

-- the commands of such strokes, one after another
same-strokes : (p : Printer) (width coded : ℕ) (f g : ℕ → Stroke) (last at many : ℕ) → ((s : ℕ) → IsSame (inks_of p.inks) (f s) (g s))
    → strokes_commands p width coded last (filter (fires p) (map f (count_from at many)))
    ≡ strokes_commands p width coded last (filter (fires p) (map g (count_from at many)))
same-strokes p width coded f g last at zero same = refl
same-strokes p width coded f g last at (suc many) same =
    by_fire (fires p (g at)) (same-fires (f at) (g at) (inks_of p.inks) (same at).rows) refl
    (λ n. same-strokes p width coded f g n (at + 1) many same)
  where
    later : (ℕ → Stroke) → List Stroke
    later s = filter (fires p) (map s (count_from (at + 1) many))

    down : ℕ → List Spoken
    down n = down_by ((n - last) * row_units p)

    by_fire : (b : Bool) → fires p (f at) ≡ fires p (g at) → fires p (g at) ≡ b
        → ((n : ℕ) → strokes_commands p width coded n (later f) ≡ strokes_commands p width coded n (later g))
        → strokes_commands p width coded last (filter (fires p) (map f (count_from at (suc many))))
        ≡ strokes_commands p width coded last (filter (fires p) (map g (count_from at (suc many))))
    by_fire true both is rest =
        ap (λ b. strokes_commands p width coded last (cond b (f at ∷ later f) (later f))) (both ∙ is)
        ∙ ap (λ n. down n ++ (inks_commands p width coded (f at) ++ strokes_commands p width coded n (later f))) (same at).start
        ∙ ap (λ js. down (g at).start ++ (js ++ strokes_commands p width coded (g at).start (later f)))
        (same-inks p width coded (f at) (g at) (inks_of p.inks) (same at).rows)
        ∙ ap (λ js. down (g at).start ++ (inks_commands p width coded (g at) ++ js))
        (rest (g at).start)
        ∙ sym (ap (λ b. strokes_commands p width coded last (cond b (g at ∷ later g) (later g))) is)
    by_fire false both is rest =
        ap (λ b. strokes_commands p width coded last (cond b (f at ∷ later f) (later f))) (both ∙ is)
        ∙ rest last
        ∙ sym (ap (λ b. strokes_commands p width coded last (cond b (g at ∷ later g) (later g))) is)

-- ---- a page

-- the rows of a stroke over planes, where those at each ink's place are these
pub same-places : (p : Printer) (t : DotTable) (head : HeadStrokes) (stroke : ℕ) (rows : Ink → List (List Bool))
    → ((place : ℕ) (ink : Ink) → slice_get (inks_of p.inks) place ≡ Some ink → rows ink ≡ stroke_rows head t stroke place)
    → AllByRecursion (λ ink. (stroke_over p head t stroke).rows ink ≡ rows ink) (inks_of p.inks)
same-places p t head stroke rows same =
    each-ink (λ ink. stroke_rows head t stroke (place_in (inks_of p.inks) ink) ≡ rows ink) (inks_of p.inks)
    (λ place ink is. ap (stroke_rows head t stroke) (place_is p.inks place ink is) ∙ sym (same place ink is))

-- Strokes over planes have the commands of the same strokes of the halftone that the planes show.
pub page-same : (p : Printer) (t : DotTable) (h : Halftone) (len : ℕ) (head : HeadStrokes) (count : ℕ) (stroke : ℕ → Stroke)
    → Shows p t h → head.count ≡ count → ((s : ℕ) → IsSame (inks_of p.inks) (stroke_over p head t s) (stroke s))
    → page_commands p t.width t.rows page_coding.c len (strokes_over p head t)
    ≡ page_commands p h.width h.height page_coding.c len (record { above = head.above; list = map stroke (count_from 0 count) })
page-same p t h len head count stroke shows many same =
    let end : List Spoken = say c.Eject ∷ say c.Init ∷ [] in
    ap (λ n. page_commands p n t.rows page_coding.c len (strokes_over p head t)) shows.width_is
    ∙ ap (λ n. page_commands p h.width n page_coding.c len (strokes_over p head t)) shows.rows_is
    ∙ ap (λ js. prologue p head.above h.height len ++ (js ++ end))
    (ap (λ n. strokes_commands p h.width page_coding.c 0 (filter (fires p) (map (stroke_over p head t) (count_from 0 n)))) many
    ∙ same-strokes p h.width page_coding.c (stroke_over p head t) stroke 0 0 count same)
