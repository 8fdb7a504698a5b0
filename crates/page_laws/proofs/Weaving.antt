-- The interleaved passes over a window print its halftone.
use Rattle.std.proofs.lemmas.Grind.{common_steps}
use Rattle.std.proofs.Common.{◌≡◌, ℕ, zero, suc, ◌+◌, ◌-◌, ◌*◌, ◌<◌, ◌≤◌, Bool, cond, ◌&&◌, ◌==◌, if◌then◌else◌, List, []}
use Rattle.std.proofs.Common.{◌∷◌, map, Option, refl, sym, ◌∙◌, ap, arith}
use Rattle.std.specs.List.{AllByRecursion, count_by, flat_map}
use Rattle.std.proofs.lemmas.Bool.{and_right, eqb-true, lt-ltb}
use Rattle.std.proofs.lemmas.List.Sums.{sum_by-cons}
use Rattle.printer_definitions.specs.declared.inks.Ink.{Ink}
use Rattle.printer_definitions.specs.Inks.{inks_of}
use Rattle.printer_definitions.specs.Printer.{Printer, head_rows}
use Rattle.base_definitions.specs.Packed.{at}
use Rattle.separation_definitions.specs.CanPrint.{CanPrint}
use Rattle.page_definitions.specs.Dots.{Halftone}
use Rattle.page_definitions.specs.PageBytes.{fired_row, pass_stroke, weave}
use Rattle.page_definitions.specs.Strokes.{Fires, GoDown, IsOnWindow, IsWhole, Stroke}
use Rattle.base_definitions.specs.Counting.{count_from}
use Rattle.weave_definitions.specs.Weave.{Firing, firing, nozzle_row, pass_count, passes}
use Rattle.weave_definitions.proofs.Firings.{each_row}
use Rattle.weave_definitions.proofs.Rows.{stands_on}
use Rattle.page_laws.proofs.Counts.{count-append, count-cons, each-of, if-none, if-plus}
use Rattle.page_laws.proofs.Hits.{FiresEachDot, fires-exactly, hits, rows_hits}
use Rattle.page_laws.proofs.Passes.{at-counted, no-dot, pass-on_window, pass-whole}

-- ---- how often the passes fire a place

-- whether a firing is of a row
of_row : ℕ → Firing → Bool
of_row y f = f.row == y

-- one nozzle in one pass fires a dot of its row, once
nozzle-hits : (p : Printer) (h : Halftone) (ink : Ink) (y x t i : ℕ) → x < h.width
    → cond ((t * p.nozzles + i * p.pitch - head_rows p == y) && at (fired_row h ink (nozzle_row p.nozzles p.pitch h.height t i)) x) 1 0
    ≡ cond (h.dot ink y x) (count_by (of_row y) (firing t i (nozzle_row p.nozzles p.pitch h.height t i))) 0
unfolding of_row
nozzle-hits p h ink y x t i low = grind (arith, and_right, at-counted, count-cons, eqb-true, if-none, no-dot, of_row, stands_on)

-- the nozzles of one pass
pass-hits : (p : Printer) (h : Halftone) (ink : Ink) (y x t start i many : ℕ) → x < h.width → start ≡ t * p.nozzles + i * p.pitch
    → rows_hits p.pitch (head_rows p) y x start (map (λ i. fired_row h ink (nozzle_row p.nozzles p.pitch h.height t i)) (count_from i many))
    ≡ cond (h.dot ink y x) (count_by
    (of_row y) (flat_map (λ i. firing t i (nozzle_row p.nozzles p.pitch h.height t i)) (count_from i many))) 0
pass-hits p h ink y x t start i zero low e = sym (if-none (h.dot ink y x) 0 refl)
pass-hits p h ink y x t start i (suc many) low e =
    let row : ℕ → Option ℕ = λ i. nozzle_row p.nozzles p.pitch h.height t i in
    let rows : List (List Bool) = map (λ i. fired_row h ink (row i)) (count_from (i + 1) many) in
    let firings : List Firing = flat_map (λ i. firing t i (row i)) (count_from (i + 1) many) in
    let one_if : Bool → ℕ = λ b. cond b 1 0 in
    let next : start + p.pitch ≡ t * p.nozzles + (i + 1) * p.pitch = omega (arith, e) in
    ap (λ n. one_if ((n - head_rows p == y) && at (fired_row h ink (row i)) x) + rows_hits p.pitch
    (head_rows p) y x (start + p.pitch) rows) e
    ∙ ap (λ n. n + rows_hits p.pitch (head_rows p) y x (start + p.pitch) rows) (nozzle-hits p h ink y x t i low)
    ∙ ap (λ n. cond (h.dot ink y x) (count_by (of_row y) (firing t i (row i))) 0 + n)
    (pass-hits p h ink y x t (start + p.pitch) (i + 1) many low next)
    ∙ if-plus (h.dot ink y x) (count_by (of_row y) (firing t i (row i))) (count_by (of_row y) firings)
    ∙ ap (λ n. cond (h.dot ink y x) n 0) (sym (count-append (of_row y) (firing t i (row i)) firings))

-- all the passes
passes-hit : (p : Printer) (h : Halftone) (ink : Ink) (y x : ℕ) (ts : List ℕ) → x < h.width
    → hits p (head_rows p) (map (pass_stroke p h) ts) ink y x
    ≡ cond (h.dot ink y x) (count_by (of_row y) (flat_map (λ t.
    flat_map (λ i. firing t i (nozzle_row p.nozzles p.pitch h.height t i)) (count_from 0 p.nozzles)) ts)) 0
passes-hit p h ink y x [] low = sym (if-none (h.dot ink y x) 0 refl)
passes-hit p h ink y x (t ∷ ts) low =
    grind (arith, common_steps, count-append, hits, if-plus, of_row, pass-hits, rows_hits, sum_by-cons, passes-hit p h ink y x ts low)

-- the passes fire each dot once
weave-hits : (p : Printer) (h : Halftone) → CanPrint p → FiresEachDot p h (weave p h)
unfolding of_row
weave-hits p h can =
    each-of (λ ink. (y x : ℕ) → y < h.height → x < h.width → hits p (head_rows p) (weave p h).list ink y x
    ≡ cond (h.dot ink y x) 1 0) (inks_of p.inks) (λ ink y x low_y low_x.
    let once : count_by (of_row y) (passes p.nozzles p.pitch h.height) ≡ 1 =
    each_row p.nozzles p.pitch h.height can.some_nozzles can.some_pitch can.coprime y
    ∙ ap (λ b. if b then 1 else 0) (lt-ltb y h.height low_y) in
    passes-hit p h ink y x (count_from 0 (pass_count p.nozzles p.pitch h.height)) low_x ∙ ap (λ n. cond (h.dot ink y x) n 0) once)

-- ---- the passes as strokes

-- each pass begins below the one before
weave-rises : (p : Printer) (h : Halftone) (last t many : ℕ)
    → last ≤ t * p.nozzles → GoDown last (map (pass_stroke p h) (count_from t many))
weave-rises p h last t zero le = tt
weave-rises p h last t (suc many) le = (le, weave-rises p h (t * p.nozzles) (t + 1) many (omega arith))

-- what holds of each pass holds of each stroke
pub each-pass : (p : Printer) (h : Halftone) (P : Stroke → Type 0) (ts : List ℕ)
    → ((t : ℕ) → P (pass_stroke p h t)) → AllByRecursion P (map (pass_stroke p h) ts)
each-pass p h P [] every = tt
each-pass p h P (t ∷ ts) every = (every t, each-pass p h P ts every)

-- The interleaved passes over a window print its halftone.
pub weave-fires : (p : Printer) (h : Halftone) → CanPrint p → Fires p h (weave p h)
weave-fires p h can =
    let ts : List ℕ = count_from 0 (pass_count p.nozzles p.pitch h.height) in
    let whole = each-pass p h (λ stroke. (ink : Ink) → IsWhole p.nozzles h.width (stroke.rows ink)) ts (pass-whole p h) in
    let on = each-pass p h (λ stroke. (ink : Ink)
    → IsOnWindow p.pitch (head_rows p) h.height stroke.start (stroke.rows ink)) ts (pass-on_window p h) in
    record {
      room = can.head_room;
      rising = weave-rises p h 0 0 (pass_count p.nozzles p.pitch h.height) (omega arith);
      whole = whole;
      on_window = on;
      once = fires-exactly p h (weave p h) can whole on (weave-hits p h can);
    }
