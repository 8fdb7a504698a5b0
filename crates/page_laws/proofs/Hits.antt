-- Strokes that fire each place of a window as often as it has a dot fire exactly its dots.
use Rattle.std.proofs.Common.{◌≡◌, ℕ, ◌+◌, ◌-◌, ◌<◌, Bool, true, cond, ◌&&◌, ◌==◌, List, [], ◌∷◌, refl, sym, ◌∙◌, ap, arith}
use Rattle.std.proofs.lemmas.List.Sums.{sum_by-cons}
use Rattle.std.specs.List.{AllByRecursion, list_any, count_by, flat_map, sum_by}
use Rattle.printer_definitions.specs.declared.inks.Ink.{Ink}
use Rattle.printer_definitions.specs.Inks.{inks_of}
use Rattle.printer_definitions.specs.Printer.{Printer}
use Rattle.escp2_definitions.specs.Machine.{Dot, is_at}
use Rattle.base_definitions.specs.Packed.{at}
use Rattle.page_definitions.specs.Dots.{Halftone, dots_wanted, place_of}
use Rattle.page_definitions.specs.Exact.{Exactly}
use Rattle.page_definitions.specs.Strokes.{IsOnWindow, IsWhole, Stroke, Strokes, fired, row_fired, rows_fired, stroke_fired}
use Rattle.separation_definitions.specs.CanPrint.{CanPrint}
use Rattle.weave_definitions.proofs.Firings.{count-flat}
use Rattle.page_laws.proofs.Counts.{count-append, each-of, sum-none, sum-plus, sum-same}
use Rattle.page_laws.proofs.Fired.{AllWide, on_window-first, on_window-next}
use Rattle.page_laws.proofs.Once.{exactly, wanted-once}
use Rattle.page_laws.proofs.Totals.{row-total, total, total-none, total-plus, total-same, wanted-total}

-- ---- how often a place is fired

-- How often rows, where the first nozzle is on this row, fire row y of the window at column x. (A row with a dot lies
-- on the window, so that the difference is its row there.)
abbrev pub rows_hits : ℕ → ℕ → ℕ → ℕ → ℕ → List (List Bool) → ℕ
rows_hits pitch above y x start [] = 0
rows_hits pitch above y x start (row ∷ rows) = cond ((start - above == y) && at row x) 1 0 + rows_hits pitch above y x (start + pitch) rows

-- How often strokes fire row y of the window at column x with an ink.
abbrev pub hits : Printer → ℕ → List Stroke → Ink → ℕ → ℕ → ℕ
hits p above strokes ink y x = sum_by (λ stroke. rows_hits p.pitch above y x stroke.start (stroke.rows ink)) strokes

-- ---- the rows of a stroke

-- the dots of rows at a place on paper
rows-total : (p : Printer) (d : Dot) (above height width : ℕ) (ink : Ink) (start : ℕ) (rows : List (List Bool)) → AllWide width rows
    → IsOnWindow p.pitch above height start rows
    → count_by (is_at d) (rows_fired p above ink start rows)
    ≡ total (λ y x. is_at d (place_of p ink y x)) height width (λ y x. rows_hits p.pitch above y x start rows)
rows-total p d above height width ink start [] wide on =
    sym (total-none (λ y x. is_at d (place_of p ink y x)) height width (λ y x. 0) (λ y x. refl))
rows-total p d above height width ink start (row ∷ rows) wide on =
    let test : ℕ → ℕ → Bool = λ y x. is_at d (place_of p ink y x) in
    let first : ℕ → ℕ → ℕ = λ y x. cond ((start - above == y) && at row x) 1 0 in
    let others : ℕ → ℕ → ℕ = λ y x. rows_hits p.pitch above y x (start + p.pitch) rows in
    let low : list_any (λ on. on) row ≡ true → start - above < height =
    λ e. let is = on_window-first p.pitch above height start row rows on e in omega (arith, is.0, is.1) in
    count-append (is_at d) (row_fired p ink (start - above) 0 row) (rows_fired p above ink (start + p.pitch) rows)
    ∙ ap (λ n. n + count_by (is_at d) (rows_fired p above ink (start + p.pitch) rows))
    (row-total p d ink height width (start - above) row wide.0 low)
    ∙ ap (λ n. total test height width first + n)
    (rows-total p d above height width ink (start + p.pitch) rows wide.1 (on_window-next p.pitch above height start row rows on))
    ∙ sym (total-plus test height width first others)

-- ---- strokes

-- the dots of strokes at a place on paper, ink by ink
strokes-total : (p : Printer) (d : Dot) (above height width : ℕ) (strokes : List Stroke)
    → AllByRecursion (λ stroke. (ink : Ink) → IsWhole p.nozzles width (stroke.rows ink)) strokes
    → AllByRecursion (λ stroke. (ink : Ink) → IsOnWindow p.pitch above height stroke.start (stroke.rows ink)) strokes
    → count_by (is_at d) (flat_map (stroke_fired p above) strokes)
    ≡ sum_by (λ ink. total (λ y x. is_at d (place_of p ink y x)) height width (λ y x. hits p above strokes ink y x)) (inks_of p.inks)
strokes-total p d above height width [] whole on = simp (each-of, sum-none, total, total-none)
strokes-total p d above height width (stroke ∷ strokes) whole on =
    let of : Ink → (ℕ → ℕ → ℕ) → ℕ = λ ink. total (λ y x. is_at d (place_of p ink y x)) height width in
    let now : Ink → ℕ → ℕ → ℕ = λ ink y x. rows_hits p.pitch above y x stroke.start (stroke.rows ink) in
    let later : Ink → ℕ → ℕ → ℕ = λ ink y x. hits p above strokes ink y x in
    let rows : Ink → List Dot = λ ink. rows_fired p above ink stroke.start (stroke.rows ink) in
    let first : count_by (is_at d) (stroke_fired p above stroke) ≡ sum_by (λ ink. of ink (now ink)) (inks_of p.inks) =
    count-flat (is_at d) rows (inks_of p.inks)
    ∙ sum-same (λ ink. count_by (is_at d) (rows ink)) (λ ink. of ink (now ink)) (inks_of p.inks)
    (each-of (λ ink. count_by (is_at d) (rows ink) ≡ of ink (now ink)) (inks_of p.inks)
    (λ ink. rows-total p d above height width ink stroke.start (stroke.rows ink) (whole.0 ink).wide (on.0 ink))) in
    count-append (is_at d) (stroke_fired p above stroke) (flat_map (stroke_fired p above) strokes)
    ∙ ap (λ n. n + count_by (is_at d) (flat_map (stroke_fired p above) strokes)) first
    ∙ ap (λ n. sum_by (λ ink. of ink (now ink)) (inks_of p.inks) + n) (strokes-total p d above height width strokes whole.1 on.1)
    ∙ sym (sum-plus (λ ink. of ink (now ink)) (λ ink. of ink (later ink)) (inks_of p.inks))
    ∙ sym (sum-same (λ ink. of ink (λ y x. hits p above (stroke ∷ strokes) ink y x))
    (λ ink. of ink (now ink) + of ink (later ink)) (inks_of p.inks)
    (each-of (λ ink. of ink (λ y x. hits p above (stroke ∷ strokes) ink y x) ≡ of ink (now ink) + of ink (later ink))
    (inks_of p.inks) (λ ink.
    total-same (λ y x. is_at d (place_of p ink y x)) height width
    (λ y x. hits p above (stroke ∷ strokes) ink y x) (λ y x. now ink y x + later ink y x)
    (λ y x low_y low_x. sum_by-cons (λ stroke. rows_hits p.pitch above y x stroke.start (stroke.rows ink)) stroke strokes)
    ∙ total-plus (λ y x. is_at d (place_of p ink y x)) height width (now ink) (later ink))))

-- ---- each dot once

-- Each place of the window is fired as often as it has a dot.
abbrev pub FiresEachDot : Printer → Halftone → Strokes → Type 0
FiresEachDot p h strokes =
    AllByRecursion (λ ink. (y x : ℕ) → y < h.height
    → x < h.width → hits p strokes.above strokes.list ink y x ≡ cond (h.dot ink y x) 1 0) (inks_of p.inks)

-- Strokes that fire each place of a window as often as it has a dot fire exactly the halftone's dots: whichever nozzles
-- fire a row, and in however many strokes.
pub fires-exactly : (p : Printer) (h : Halftone) (strokes : Strokes) → CanPrint p
    → AllByRecursion (λ stroke. (ink : Ink) → IsWhole p.nozzles h.width (stroke.rows ink)) strokes.list
    → AllByRecursion (λ stroke. (ink : Ink) → IsOnWindow p.pitch strokes.above h.height stroke.start (stroke.rows ink)) strokes.list
    → FiresEachDot p h strokes → Exactly (fired p strokes) (dots_wanted p h)
fires-exactly p h strokes can whole on each =
    exactly (fired p strokes) (dots_wanted p h) (λ d.
    strokes-total p d strokes.above h.height h.width strokes.list whole on
    ∙ sum-same (λ ink. total (λ y x. is_at d (place_of p ink y x)) h.height h.width (λ y x. hits p strokes.above strokes.list ink y x))
    (λ ink. total (λ y x. is_at d (place_of p ink y x)) h.height h.width (λ y x. cond (h.dot ink y x) 1 0)) (inks_of p.inks)
    (by_ink d (inks_of p.inks) each)
    ∙ sym (wanted-total p h (is_at d))) (wanted-once p h can)
  where
    by_ink : (d : Dot) (inks : List Ink) → AllByRecursion (λ ink. (y x : ℕ)
        → y < h.height → x < h.width → hits p strokes.above strokes.list ink y x ≡ cond (h.dot ink y x) 1 0) inks
        → AllByRecursion (λ ink. total
        (λ y x. is_at d (place_of p ink y x)) h.height h.width (λ y x. hits p strokes.above strokes.list ink y x)
        ≡ total (λ y x. is_at d (place_of p ink y x)) h.height h.width (λ y x. cond (h.dot ink y x) 1 0)) inks
    by_ink d [] each = tt
    by_ink d (ink ∷ inks) each = (
      total-same (λ y x. is_at d (place_of p ink y x)) h.height h.width (λ y x. hits
          p strokes.above strokes.list ink y x) (λ y x. cond (h.dot ink y x) 1 0) each.0,
      by_ink d inks each.1,
    )
