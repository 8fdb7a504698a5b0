-- The dots of each ink on a sheet, whose planes have exactly those of a list.
use Rattle.std.proofs.Common.{◌≡◌, ◌≢◌, ℕ, zero, suc, ◌+◌, ◌*◌, ◌/◌, ◌%◌, ◌<◌, ◌≤◌, Bool, true, false, cond, ◌&&◌, ◌==◌, if◌then◌else◌}
use Rattle.std.proofs.Common.{List, [], ◌∷◌, Some, slice_get, sum_by, count_by, refl, sym, ◌∙◌, ap, subst, arith}
use Rattle.std.specs.List.{AllByRecursion, list_any}
use Rattle.std.proofs.Math.Nat.{div-add-mod, mul-div_cancel}
use Rattle.std.proofs.lemmas.Bool.{and_parts, eq-eqb, eqb-true, ne_eqb}
use Rattle.base_definitions.specs.Counting.{count_from}
use Rattle.dot_emulator.specs.Runs.{IsSheet}
use Rattle.dot_emulator.specs.Sheets.{IsOnGrid, dot_at}
use Rattle.dot_emulator.specs.declared.sheet.Sheet.{Sheet}
use Rattle.dot_emulator.proofs.OnGrid.{wider}
use Rattle.dot_planes.specs.Tables.{DotTable, dot}
use Rattle.escp2_definitions.specs.Machine.{Dot, Sheet as PrintedSheet, is_at}
use Rattle.ink_meter.specs.Counts.{dots_of, halftone_dots, ink_dots}
use Rattle.ink_meter.proofs.PlaneDots.{plane-most}
use Rattle.base_definitions.specs.Limits.{most_columns}
use Rattle.job_player.specs.Totals.{AreDistinct, AreFew}
use Rattle.page_definitions.specs.Dots.{Halftone, HasDots as HasHalftone, dots_wanted}
use Rattle.page_definitions.specs.Exact.{Exactly}
use Rattle.page_laws.proofs.Counts.{count-cons, each-from, each-of, few, sum-none, sum-one, sum-plus, sum-same}
use Rattle.page_laws.proofs.Planes.{plane-counts}
use Rattle.printer_definitions.specs.declared.inks.Ink.{Ink}
use Rattle.printer_definitions.specs.declared.inks.Ink.TheVariants.{Black, Cyan, Magenta, Yellow}
use Rattle.printer_definitions.specs.declared.inks.InkCounts.{InkCounts}
use Rattle.printer_definitions.specs.declared.inks.InkSet.TheVariants.{Cmyk}
use Rattle.printer_definitions.specs.Inks.{ink_place, inks_of, same_ink}
use Rattle.printer_definitions.specs.Printer.{Printer, column_step, row_step, tiny1}

-- ---- dots on a grid

-- one where a test holds
abbrev one_if : Bool → ℕ
one_if b = cond b 1 0

-- the dots of a grid's places, by how many each place has
abbrev grid : (ℕ → ℕ → ℕ) → ℕ → ℕ → ℕ
grid f width height = sum_by (λ y. sum_by (λ x. f y x) (count_from 0 width)) (count_from 0 height)

grid-same : (f g : ℕ → ℕ → ℕ) (width height : ℕ) → ((y x : ℕ) → y < height → x < width → f y x ≡ g y x)
    → grid f width height ≡ grid g width height
grid-same f g width height same =
    sum-same (λ y. sum_by (λ x. f y x) (count_from 0 width)) (λ y. sum_by (λ x. g y x) (count_from 0 width)) (count_from 0 height)
    (each-from (λ y. sum_by (λ x. f y x) (count_from 0 width) ≡ sum_by (λ x. g y x) (count_from 0 width)) 0 height (λ y from_y to_y.
    sum-same (λ x. f y x) (λ x. g y x) (count_from 0 width)
    (each-from (λ x. f y x ≡ g y x) 0 width (λ x from_x to_x. same y x (omega arith) (omega arith)))))

grid-plus : (f g : ℕ → ℕ → ℕ) (width height : ℕ) → grid (λ y x. f y x + g y x) width height ≡ grid f width height + grid g width height
grid-plus f g width height =
    let row : (ℕ → ℕ → ℕ) → ℕ → ℕ = λ h y. sum_by (λ x. h y x) (count_from 0 width) in
    sum-same (row (λ y x. f y x + g y x)) (λ y. row f y + row g y) (count_from 0 height)
    (each-of (λ y. row (λ y x. f y x + g y x) y ≡ row f y + row g y) (count_from 0 height)
    (λ y. sum-plus (λ x. f y x) (λ x. g y x) (count_from 0 width)))
    ∙ sum-plus (row f) (row g) (count_from 0 height)

grid-none : (width height : ℕ) → grid (λ y x. 0) width height ≡ 0
grid-none width height =
    sum-none (λ y. sum_by (λ x. 0) (count_from 0 width)) (count_from 0 height)
    (each-of (λ y. sum_by (λ x. 0) (count_from 0 width) ≡ 0) (count_from 0 height)
    (λ y. sum-none (λ x. 0) (count_from 0 width) (each-of (λ x. 0 ≡ 0) (count_from 0 width) (λ x. refl))))

-- a number whose remainder is 0
whole-parts : (n step : ℕ) → n % step ≡ 0 → n / step * step ≡ n
whole-parts n step none =
    let parts : step * (n / step) + n % step ≡ n = div-add-mod n step in
    let turned : n / step * step ≡ step * (n / step) = grind arith in
    omega (arith, parts, turned, none)

-- no other column or row is where a dot is
other-part : (k n step : ℕ) → 1 ≤ step → k ≢ n / step → (k * step == n) ≡ false
other-part k n step some apart =
    ne_eqb (k * step) n (λ e. apart (sym (mul-div_cancel k some) ∙ ap (λ m. m / step) e))

test-second : (a b d : Bool) → b ≡ false → one_if (a && b && d) ≡ 0
test-second true b d none = ap (λ e. one_if (e && d)) none
test-second false b d none = refl

test-third : (a b d : Bool) → d ≡ false → one_if (a && b && d) ≡ 0
test-third true true d none = ap one_if none
test-third true false d none = refl
test-third false b d none = refl

test-first : (a b d : Bool) → b ≡ true → d ≡ true → one_if (a && b && d) ≡ one_if a
test-first a true true here there = by_ink a
  where
    by_ink : (a : Bool) → one_if (a && true && true) ≡ one_if a
    by_ink true = refl
    by_ink false = refl
test-first a true false here there = cc
test-first a false d here there = cc

-- a dot on the grid is at one of its places
one-place : (column row width height : ℕ) (ink : Ink) (d : Dot) → 1 ≤ column → 1 ≤ row → IsOnGrid column row width height d
    → grid (λ y x. one_if (is_at (dot_at column row ink y x) d)) width height ≡ one_if (same_ink ink d.ink)
one-place column row width height ink d some some' on =
    let f : ℕ → ℕ → ℕ = λ y x. one_if (is_at (dot_at column row ink y x) d) in
    let x0 : ℕ = d.x / column in
    let y0 : ℕ = d.y / row in
    let in_columns : x0 < width = on.in_columns in
    let in_rows : y0 < height = on.in_rows in
    sum-one (λ y. sum_by (λ x. f y x) (count_from 0 width)) y0 0 height (omega arith) (omega arith) (λ y apart.
    sum-none (λ x. f y x) (count_from 0 width) (each-of (λ x. f y x ≡ 0) (count_from 0 width) (λ x.
    test-third (same_ink ink d.ink) (x * column == d.x) (y * row == d.y) (other-part y d.y row some' apart))))
    ∙ sum-one (λ x. f y0 x) x0 0 width (omega arith) (omega arith) (λ x apart.
    test-second (same_ink ink d.ink) (x * column == d.x) (y0 * row == d.y) (other-part x d.x column some apart))
    ∙ test-first (same_ink ink d.ink) (x0 * column == d.x) (y0 * row == d.y)
    (eq-eqb (x0 * column) d.x (whole-parts d.x column on.in_column)) (eq-eqb (y0 * row) d.y (whole-parts d.y row on.in_row))

-- dots on the grid are counted place by place
places-count : (column row width height : ℕ) (ink : Ink) (dots : List Dot) → 1 ≤ column → 1 ≤ row
    → AllByRecursion (IsOnGrid column row width height) dots
    → grid (λ y x. count_by (is_at (dot_at column row ink y x)) dots) width height ≡ dots_of dots ink
places-count column row width height ink [] some some' on = grid-none width height
places-count column row width height ink (d ∷ dots) some some' on =
    let at : ℕ → ℕ → Dot → Bool = λ y x. is_at (dot_at column row ink y x) in
    grid-same (λ y x. count_by (at y x) (d ∷ dots)) (λ y x. one_if (at y x d) + count_by (at y x) dots) width height
    (λ y x in_rows in_columns. count-cons (at y x) d dots)
    ∙ grid-plus (λ y x. one_if (at y x d)) (λ y x. count_by (at y x) dots) width height
    ∙ ap (λ n. n + grid (λ y x. count_by (at y x) dots) width height) (one-place column row width height ink d some some' on.0)
    ∙ ap (λ n. one_if (same_ink ink d.ink) + n) (places-count column row width height ink dots some some' on.1)
    ∙ sym (count-cons (λ (d : Dot). same_ink ink d.ink) d dots)

-- ---- two lists with the same dots

-- a dot that is counted among dots on the grid is on the grid
counted-on : (column row width height : ℕ) (d : Dot) (dots : List Dot) → AllByRecursion (IsOnGrid column row width height) dots
    → 1 ≤ count_by (is_at d) dots → IsOnGrid column row width height d
counted-on column row width height d [] on some = absurd (omega arith)
counted-on column row width height d (e ∷ dots) on some = by_place (is_at d e) refl (counted-on column row width height d dots on.1)
  where
    by_place : (b : Bool) → is_at d e ≡ b → (1 ≤ count_by (is_at d) dots → IsOnGrid column row width height d)
        → IsOnGrid column row width height d
    by_place true here later =
        let parts = and_parts (same_ink d.ink e.ink && (d.x == e.x)) (d.y == e.y) here in
        let x_is : d.x ≡ e.x = eqb-true d.x e.x (and_parts (same_ink d.ink e.ink) (d.x == e.x) parts.0).1 in
        let y_is : d.y ≡ e.y = eqb-true d.y e.y parts.1 in
        let low : ℕ → Type 0 = λ n. n / column < width in
        let high : ℕ → Type 0 = λ n. n / row < height in
        record {
          in_column = ap (λ n. n % column) x_is ∙ on.0.in_column;
          in_columns = subst low (sym x_is) on.0.in_columns;
          in_row = ap (λ n. n % row) y_is ∙ on.0.in_row;
          in_rows = subst high (sym y_is) on.0.in_rows;
        }
    by_place false elsewhere later =
        later (omega (arith, some, count-cons (is_at d) e dots, ap one_if elsewhere))

same-self : (d : Dot) → is_at d d ≡ true
same-self d =
    ap (λ b. b && (d.x == d.x) && (d.y == d.y)) (eq-eqb (ink_place d.ink) (ink_place d.ink) refl)
    ∙ ap (λ b. b && (d.y == d.y)) (eq-eqb d.x d.x refl) ∙ eq-eqb d.y d.y refl

-- dots each of which is among dots on the grid
all-on : (column row width height : ℕ) (dots others : List Dot) → AllByRecursion (IsOnGrid column row width height) dots
    → ((d : Dot) → 1 ≤ count_by (is_at d) others → 1 ≤ count_by (is_at d) dots)
    → AllByRecursion (IsOnGrid column row width height) others
all-on column row width height dots [] on among = tt
all-on column row width height dots (d ∷ others) on among = (
  counted-on column row width height d dots on (among d
      (omega (arith, count-cons (is_at d) d others, ap one_if (same-self d)))),
  all-on column row width height dots others on (λ e some. among e (omega (arith, some, count-cons (is_at e) d others))),
)

if-cond : (b : Bool) → one_if b ≡ (if b then 1 else 0)
if-cond true = refl
if-cond false = refl

-- a dot of distinct ones is counted as on a sheet that has exactly these
exact-count : (dots places : List Dot) (d : Dot) → Exactly dots places → AreDistinct places → count_by (is_at d) dots ≡ count_by (is_at d) places
exact-count dots places d exactly distinct = exactly.counts d ∙ sym (few (is_at d) places (distinct d))

exact-place : (dots places : List Dot) (d : Dot) → Exactly dots places → AreDistinct places
    → one_if (list_any (is_at d) dots) ≡ count_by (is_at d) places
exact-place dots places d exactly distinct =
    let same : count_by (is_at d) dots ≡ count_by (is_at d) places = exact-count dots places d exactly distinct in
    if-cond (list_any (is_at d) dots) ∙ sym (few (is_at d) dots (omega (arith, same, distinct d))) ∙ same

-- ---- the planes of a sheet

-- the dots of a plane
abbrev pub plane_of : DotTable → ℕ → ℕ
plane_of t i = sum_by (λ y. count_by (λ x. dot t i y x) (count_from 0 t.width)) (count_from 0 t.rows)

pub plane-dots : (p : Printer) (s : PrintedSheet) (sheet : Sheet) (dots : List Dot) (ink : Ink) → 1 ≤ column_step p → 1 ≤ row_step p
    → IsSheet p s sheet → Exactly s.dots dots → AreDistinct dots → plane_of sheet.planes (ink_place ink) ≡ dots_of dots ink
plane-dots p s sheet dots ink some some' is exactly distinct =
    let t : DotTable = sheet.planes in
    let column : ℕ = column_step p in
    let row : ℕ = row_step p in
    let wide : s.columns ≤ t.width = omega (arith, is.columns, sheet.most, sheet.width) in
    let printed : AllByRecursion (IsOnGrid column row t.width t.rows) s.dots =
    wider column row s.columns t.width t.rows s.dots wide is.dots.inside in
    let on : AllByRecursion (IsOnGrid column row t.width t.rows) dots =
    all-on column row t.width t.rows s.dots dots printed
    (λ d among. omega (arith, among, exact-count s.dots dots d exactly distinct)) in
    grid-same (λ y x. one_if (dot t (ink_place ink) y x)) (λ y x. count_by (is_at (dot_at column row ink y x)) dots) t.width t.rows
    (λ y x in_rows in_columns.
    ap one_if (is.dots.places ink y x in_rows) ∙ exact-place s.dots dots (dot_at column row ink y x) exactly distinct)
    ∙ places-count column row t.width t.rows ink dots some some' on

-- ---- their counts

-- a printer of all four inks, and the dots of planes as its halftone
abbrev pub four_inks : Printer
four_inks = record tiny1 { inks = Cmyk }

abbrev pub halftone_of : DotTable → Halftone
halftone_of t = record { width = t.width; height = t.rows; dot = λ ink y x. dot t (ink_place ink) y x }

ink-is : (i : ℕ) (ink : Ink) → slice_get (inks_of Cmyk) i ≡ Some ink → i ≡ ink_place ink
ink-is zero ink e = let same : Black ≡ ink = cc in ap ink_place same
ink-is (suc zero) ink e = let same : Cyan ≡ ink = cc in ap ink_place same
ink-is (suc (suc zero)) ink e = let same : Magenta ≡ ink = cc in ap ink_place same
ink-is (suc (suc (suc zero))) ink e = let same : Yellow ≡ ink = cc in ap ink_place same
ink-is (suc (suc (suc (suc i)))) ink e = cc

pub has_halftone : (t : DotTable) → t.inks ≡ 4 → HasHalftone four_inks (halftone_of t) t.width t.rows t.inks (dot t)
has_halftone t four = record {
  width_is = refl;
  rows_is = refl;
  inks_is = four;
  dots = λ i y x ink here in_rows in_columns. ap (λ k. dot t k y x) (ink-is i ink here);
}

ink-counts : (t : DotTable) (ink : Ink) → t.inks ≡ 4 → slice_get (inks_of Cmyk) (ink_place ink) ≡ Some ink
    → dots_of (dots_wanted four_inks (halftone_of t)) ink ≡ plane_of t (ink_place ink)
ink-counts t ink four here =
    plane-counts four_inks (halftone_of t) t.width t.rows t.inks (dot t) (ink_place ink) ink (has_halftone t four) here

-- the counts of planes, ink by ink
pub record ArePlanes (n : InkCounts) (t : DotTable) : Type 0 where
  pub k : n.k ≡ plane_of t 0
  pub c : n.c ≡ plane_of t 1
  pub m : n.m ≡ plane_of t 2
  pub y : n.y ≡ plane_of t 3

pub are_planes : (n : InkCounts) (t : DotTable) → t.inks ≡ 4 → n ≡ halftone_dots four_inks (halftone_of t) → ArePlanes n t
are_planes n t four is = record {
  k = ap (λ (n : InkCounts). n.k) is ∙ ink-counts t Black four refl;
  c = ap (λ (n : InkCounts). n.c) is ∙ ink-counts t Cyan four refl;
  m = ap (λ (n : InkCounts). n.m) is ∙ ink-counts t Magenta four refl;
  y = ap (λ (n : InkCounts). n.y) is ∙ ink-counts t Yellow four refl;
}

same-counts : (n : InkCounts) (dots : List Dot) → n.k ≡ dots_of dots Black → n.c ≡ dots_of dots Cyan
    → n.m ≡ dots_of dots Magenta → n.y ≡ dots_of dots Yellow → n ≡ ink_dots dots
same-counts n dots k c m y =
    let same : ◌≡◌ {A = InkCounts} (record { k = n.k; c = n.c; m = n.m; y = n.y }) (ink_dots dots) = rw (k, c, m, y) refl in
    same

pub counts_are : (p : Printer) (s : PrintedSheet) (sheet : Sheet) (dots : List Dot) (n : InkCounts) → 1 ≤ column_step p → 1 ≤ row_step p
    → IsSheet p s sheet → Exactly s.dots dots → AreDistinct dots → ArePlanes n sheet.planes → n ≡ ink_dots dots
counts_are p s sheet dots n some some' is exactly distinct planes =
    same-counts n dots
    (planes.k ∙ plane-dots p s sheet dots Black some some' is exactly distinct)
    (planes.c ∙ plane-dots p s sheet dots Cyan some some' is exactly distinct)
    (planes.m ∙ plane-dots p s sheet dots Magenta some some' is exactly distinct)
    (planes.y ∙ plane-dots p s sheet dots Yellow some some' is exactly distinct)

pub counts_few : (n : InkCounts) (t : DotTable) → t.width ≤ most_columns → t.rows < 4294967296 → ArePlanes n t → AreFew 1 n
counts_few n t narrow short planes = (
  omega (arith, short, planes.k, plane-most (dot t) t.width t.rows 0 narrow),
  omega (arith, short, planes.c, plane-most (dot t) t.width t.rows 1 narrow),
  omega (arith, short, planes.m, plane-most (dot t) t.width t.rows 2 narrow),
  omega (arith, short, planes.y, plane-most (dot t) t.width t.rows 3 narrow),
)
