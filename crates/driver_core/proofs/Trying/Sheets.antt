-- The dots of each ink on sheets that have exactly those of pages.
use Rattle.std.proofs.Common.{◌≡◌, ℕ, ◌+◌, ◌≤◌, Bool, true, false, cond, ◌&&◌, ◌==◌, List, [], ◌∷◌, ◌++◌, length}
use Rattle.std.proofs.Common.{count_by, refl, sym, ◌∙◌, ap, arith}
use Rattle.std.proofs.lemmas.Bool.{and_parts, eq-eqb, eqb-true}
use Rattle.page_definitions.specs.Dots.{Screening}
use Rattle.escp2_definitions.specs.Machine.{Dot, Sheet, is_at}
use Rattle.ink_meter.specs.Accounts.{together}
use Rattle.ink_meter.specs.Counts.{dots_of, ink_dots, page_dots}
use Rattle.ink_meter.proofs.Pages.{page_dots-is}
use Rattle.page_definitions.specs.Dots.{halftone, wanted}
use Rattle.page_definitions.specs.Exact.{Exactly}
use Rattle.page_definitions.specs.Printing.{AreSheets}
use Rattle.page_laws.proofs.Counts.{count-append, count-cons, few}
use Rattle.page_laws.proofs.Once.{Once, wanted-once}
use Rattle.printer_definitions.specs.declared.inks.Ink.{Ink}
use Rattle.printer_definitions.specs.declared.inks.Ink.TheVariants.{Black, Cyan, Magenta, Yellow}
use Rattle.printer_definitions.specs.declared.inks.InkCounts.{InkCounts}
use Rattle.printer_definitions.specs.Inks.{ink_place, same_ink}
use Rattle.printer_definitions.specs.Printer.{Printer}
use Rattle.pwg_definitions.specs.Stream.{Page}
use Rattle.separation_definitions.specs.CanPrint.{CanPrint}
use Rattle.driver_core.specs.Trying.Summary.{dots_of_pages, dots_of_sheets}

-- ---- dots at one place

-- Two dots of one ink at one place.
record AreAtOne (d e : Dot) : Type 0 where
  ink : ink_place d.ink ≡ ink_place e.ink
  x : d.x ≡ e.x
  y : d.y ≡ e.y

at_one : (d e : Dot) → is_at d e ≡ true → AreAtOne d e
at_one d e here =
    let parts = and_parts (same_ink d.ink e.ink && (d.x == e.x)) (d.y == e.y) here in
    let first = and_parts (same_ink d.ink e.ink) (d.x == e.x) parts.0 in
    record {
      ink = eqb-true (ink_place d.ink) (ink_place e.ink) first.0;
      x = eqb-true d.x e.x first.1;
      y = eqb-true d.y e.y parts.1;
    }

same-tests : (c d e : Dot) → AreAtOne d e → is_at c d ≡ is_at c e
same-tests c d e one =
    ap (λ n. (ink_place c.ink == n) && (c.x == d.x) && (c.y == d.y)) one.ink
    ∙ ap (λ n. (ink_place c.ink == ink_place e.ink) && (c.x == n) && (c.y == d.y)) one.x
    ∙ ap (λ n. (ink_place c.ink == ink_place e.ink) && (c.x == e.x) && (c.y == n)) one.y

at-itself : (d : Dot) → is_at d d ≡ true
at-itself d =
    ap (λ b. b && (d.x == d.x) && (d.y == d.y)) (eq-eqb (ink_place d.ink) (ink_place d.ink) refl)
    ∙ ap (λ b. b && (d.y == d.y)) (eq-eqb d.x d.x refl) ∙ eq-eqb d.y d.y refl

-- ---- lists that have each dot equally often

abbrev one_if : Bool → ℕ
one_if b = cond b 1 0

-- A dot of the list is at the place of this one.
record HasDot (d : Dot) (dots : List Dot) : Type 0 where
  before : List Dot
  found : Dot
  behind : List Dot
  is : dots ≡ before ++ found ∷ behind
  here : is_at d found ≡ true

has_dot : (d : Dot) (dots : List Dot) → 1 ≤ count_by (is_at d) dots → HasDot d dots
has_dot d [] some = absurd (omega arith)
has_dot d (e ∷ dots) some = by_first (is_at d e) refl (has_dot d dots)
  where
    by_first : (b : Bool) → is_at d e ≡ b → (1 ≤ count_by (is_at d) dots → HasDot d dots) → HasDot d (e ∷ dots)
    by_first true here later = record { before = []; found = e; behind = dots; is = refl; here = here }
    by_first false elsewhere later =
        let rest : HasDot d dots = later (omega (arith, some, count-cons (is_at d) e dots, ap one_if elsewhere)) in
        record {
          before = e ∷ rest.before;
          found = rest.found;
          behind = rest.behind;
          is = ap (λ ds. e ∷ ds) rest.is;
          here = rest.here;
        }

-- the count of a list is that of one of its dots and of the others
count-found : (test : Dot → Bool) (before behind dots : List Dot) (found : Dot) → dots ≡ before ++ found ∷ behind
    → count_by test dots ≡ one_if (test found) + count_by test (before ++ behind)
count-found test before behind dots found is = omega (
  arith,
  ap (count_by test) is,
  count-append test before (found ∷ behind),
  count-cons test found behind,
  count-append test before behind,
)

-- such lists have equally many dots of an ink
same-count : (ink : Ink) (xs ys : List Dot) → ((d : Dot) → count_by (is_at d) xs ≡ count_by (is_at d) ys) → dots_of xs ink ≡ dots_of ys ink
same-count ink [] [] same = refl
same-count ink [] (y ∷ ys) same =
    absurd (omega (arith, same y, count-cons (is_at y) y ys, ap one_if (at-itself y)))
same-count ink (x ∷ xs) ys same =
    let has : HasDot x ys = has_dot x ys (omega (arith, same x, count-cons (is_at x) x xs, ap one_if (at-itself x))) in
    let one : AreAtOne x has.found = at_one x has.found has.here in
    let others : List Dot = has.before ++ has.behind in
    let test : Dot → Bool = λ d. same_ink ink d.ink in
    omega (
      arith,
      same-count ink xs others (λ d. omega (
        arith,
        same d,
        count-cons (is_at d) x xs,
        count-found (is_at d) has.before has.behind ys has.found has.is,
        ap one_if (same-tests d x has.found one),
      )),
      count-cons test x xs,
      count-found test has.before has.behind ys has.found has.is,
      ap (λ n. one_if (ink_place ink == n)) one.ink,
    )

-- ---- counts

-- counts of each ink that are the same are the same counts
pub same-counts : (a b : InkCounts) → a.k ≡ b.k → a.c ≡ b.c → a.m ≡ b.m → a.y ≡ b.y → a ≡ b
same-counts a b k c m y =
    ap (λ n. let counts : InkCounts = record { k = n; c = a.c; m = a.m; y = a.y } in counts) k
    ∙ ap (λ n. let counts : InkCounts = record { k = b.k; c = n; m = a.m; y = a.y } in counts) c
    ∙ ap (λ n. let counts : InkCounts = record { k = b.k; c = b.c; m = n; y = a.y } in counts) m
    ∙ ap (λ n. let counts : InkCounts = record { k = b.k; c = b.c; m = b.m; y = n } in counts) y

exact-counts : (dots places : List Dot) → Exactly dots places → Once places → ink_dots dots ≡ ink_dots places
exact-counts dots places exact once =
    let same : (d : Dot) → count_by (is_at d) dots ≡ count_by (is_at d) places = λ d. exact.counts d ∙ sym (few (is_at d) places (once d)) in
    same-counts (ink_dots dots) (ink_dots places)
    (same-count Black dots places same) (same-count Cyan dots places same)
    (same-count Magenta dots places same) (same-count Yellow dots places same)

-- ---- sheets of pages

pub sheets-many : (p : Printer) (k : Screening) (pages : List Page) (sheets : List Sheet) → AreSheets p k pages sheets
    → length pages ≡ length sheets
sheets-many p k [] [] are = refl
sheets-many p k [] (sheet ∷ sheets) are = absurd are
sheets-many p k (page ∷ pages) [] are = absurd are
sheets-many p k (page ∷ pages) (sheet ∷ sheets) are = omega (arith, sheets-many p k pages sheets are.1)

pub sheets-dots : (p : Printer) (k : Screening) (pages : List Page) (sheets : List Sheet) → CanPrint p → AreSheets p k pages sheets
    → dots_of_pages p k pages ≡ dots_of_sheets sheets
sheets-dots p k [] [] can are = refl
sheets-dots p k [] (sheet ∷ sheets) can are = absurd are
sheets-dots p k (page ∷ pages) [] can are = absurd are
sheets-dots p k (page ∷ pages) (sheet ∷ sheets) can are =
    let first : page_dots page p k ≡ ink_dots sheet.dots =
    sym (page_dots-is p k page)
    ∙ sym (exact-counts sheet.dots (wanted page p k) are.0 (wanted-once p (halftone page p k) can)) in
    ap (λ n. together n (dots_of_pages p k pages)) first
    ∙ ap (together (ink_dots sheet.dots)) (sheets-dots p k pages sheets can are.1)
