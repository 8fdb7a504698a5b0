-- The strokes of a head with dead nozzles print the halftone of their window.
use Rattle.std.proofs.Common.{◌≡◌, ℕ, zero, suc, ◌+◌, ◌-◌, ◌*◌, ◌<◌, ◌≤◌, Bool, true, cond, ◌&&◌, ◌==◌}
use Rattle.std.proofs.Common.{List, [], ◌∷◌, length, map, None, Ok, refl, sym, ◌∙◌, ap, arith, subst}
use Rattle.std.specs.List.{AllByRecursion, count_by, flat_map, list_any}
use Rattle.std.specs.Prelude.{slice_index_or}
use Rattle.std.proofs.lemmas.Bool.{and_right, eqb-true, lt-ltb}
use Rattle.std.proofs.lemmas.List.{length-map}
use Rattle.std.proofs.lemmas.List.Sums.{sum_by-cons}
use Rattle.printer_definitions.specs.declared.inks.Ink.{Ink}
use Rattle.printer_definitions.specs.Inks.{inks_of}
use Rattle.printer_definitions.specs.Printer.{Printer, head_rows, row_units}
use Rattle.base_definitions.specs.Counting.{count_from}
use Rattle.base_definitions.specs.Packed.{at}
use Rattle.dead_nozzles.specs.Dead.{checked, has}
use Rattle.dead_nozzles.specs.Plans.{shot_row}
use Rattle.dead_nozzles.specs.Strokes.{Head, IsHead, Shot, StartsRise, HeadStroke, all_strokes, firings_of, row_under, shot, stroke_at}
use Rattle.dead_nozzles.proofs.Firing.{Over, over}
use Rattle.dead_nozzles.proofs.MakeUp.{each-row}
use Rattle.dead_nozzles.proofs.RowsOf.{stroke-row, wanted_row}
use Rattle.dead_nozzles.proofs.Starts.{all-rise}
use Rattle.dead_nozzles.proofs.Strokes.{IsStrokeAt, all-are, all-few, row-over}
use Rattle.dead_nozzles.proofs.Tables.{head-of}
use Rattle.escp2_definitions.specs.Commands.{commands}
use Rattle.escp2_definitions.specs.Rasters.{ink_rasters}
use Rattle.separation_definitions.specs.CanPrint.{CanPrint}
use Rattle.page_definitions.specs.Dots.{Halftone}
use Rattle.page_definitions.specs.Healed.{IsSpared, healed, healed_bytes, healed_passes, healed_stroke, shot_rows, worn_head}
use Rattle.page_definitions.specs.PageBytes.{fired_row, page_coding}
use Rattle.page_definitions.specs.RasterRows.{RasterRows, StrokeRows}
use Rattle.page_definitions.specs.Strokes.{Fires, GoDown, IsOnWindow, IsWhole, Stroke}
use Rattle.page_laws.specs.Sized.{Sized}
use Rattle.page_laws.proofs.Counts.{count-append, count-cons, each-of, if-none, if-plus}
use Rattle.page_laws.proofs.Headline.{page-coded}
use Rattle.page_laws.proofs.Hits.{FiresEachDot, fires-exactly, hits, rows_hits}
use Rattle.page_laws.proofs.Fired.{AllWide}
use Rattle.page_laws.proofs.Passes.{at-counted, count_from-len, fired_row-len, no-dot}
use Rattle.page_laws.proofs.RasterRows.{rasters-have-rows}
use Rattle.page_laws.proofs.Rasters.{few-rasters}
use Rattle.page_laws.proofs.Shingling.{counted-any, counted-row, fired-some}

-- ---- how often a stroke fires a place

-- whether a shot is of a row
of_row : ℕ → Shot → Bool
of_row y s = s.row == y

-- the row that a nozzle fires by these shots
abbrev row_by : Halftone → List Shot → Ink → ℕ → List Bool
row_by h shots ink i = fired_row h ink (shot_row shots i)

-- one nozzle of a stroke fires a dot of its row, once
nozzle-hits : (dead : List ℕ) (p : Printer) (h : Halftone) (wanted : ℕ → Bool) (ink : Ink) (y x start i : ℕ) → x < h.width
    → cond ((start + i * p.pitch - head_rows p == y)
    && at (fired_row h ink (wanted_row (worn_head dead p h.height) wanted i (row_under (worn_head dead p h.height) start i))) x) 1 0
    ≡ cond (h.dot ink y x) (count_by (of_row y)
    (shot (worn_head dead p h.height) wanted i (row_under (worn_head dead p h.height) start i))) 0
unfolding of_row
nozzle-hits dead p h wanted ink y x start i low =
    grind (arith, Over, and_right, at-counted, count-cons, eqb-true, if-none, no-dot, of_row, over, wanted_row)

-- the nozzles of a stroke
nozzles-hit : (dead : List ℕ) (p : Printer) (h : Halftone) (wanted : ℕ → Bool) (ink : Ink) (y x start from i many : ℕ)
    → x < h.width → from ≡ start + i * p.pitch → i + many ≤ p.nozzles
    → rows_hits p.pitch (head_rows p) y x from
    (map (row_by h (stroke_at (worn_head dead p h.height) wanted start).shots ink) (count_from i many))
    ≡ cond (h.dot ink y x) (count_by (of_row y)
    (flat_map (λ i. shot (worn_head dead p h.height) wanted i (row_under (worn_head dead p h.height) start i)) (count_from i many))) 0
nozzles-hit dead p h wanted ink y x start from i zero low e few = sym (if-none (h.dot ink y x) 0 refl)
nozzles-hit dead p h wanted ink y x start from i (suc many) low e few =
    let head : Head = worn_head dead p h.height in
    let shots : List Shot = (stroke_at head wanted start).shots in
    let rows : List (List Bool) = map (row_by h shots ink) (count_from (i + 1) many) in
    let others : List Shot = flat_map (λ i. shot head wanted i (row_under head start i)) (count_from (i + 1) many) in
    let own : List Shot = shot head wanted i (row_under head start i) in
    let next : from + p.pitch ≡ start + (i + 1) * p.pitch = omega (arith, e) in
    ap (λ n. cond ((n - head_rows p == y) && at (row_by h shots ink i) x) 1 0 + rows_hits p.pitch (head_rows p) y x (from + p.pitch) rows) e
    ∙ ap (λ r. cond ((start + i * p.pitch - head_rows p == y) && at (fired_row h ink r) x) 1 0
    + rows_hits p.pitch (head_rows p) y x (from + p.pitch) rows) (stroke-row head wanted start i (omega (arith, few)))
    ∙ ap (λ n. n + rows_hits p.pitch (head_rows p) y x (from + p.pitch) rows) (nozzle-hits dead p h wanted ink y x start i low)
    ∙ ap (λ n. cond (h.dot ink y x) (count_by (of_row y) own) 0 + n)
    (nozzles-hit dead p h wanted ink y x start (from + p.pitch) (i + 1) many low next (omega (arith, few)))
    ∙ if-plus (h.dot ink y x) (count_by (of_row y) own) (count_by (of_row y) others)
    ∙ ap (λ n. cond (h.dot ink y x) n 0) (sym (count-append (of_row y) own others))

-- one stroke
stroke-hits : (dead : List ℕ) (p : Printer) (h : Halftone) (ink : Ink) (y x : ℕ) (s : HeadStroke) → x < h.width → IsStrokeAt (worn_head dead p h.height) s
    → rows_hits p.pitch (head_rows p) y x s.start (shot_rows p h s.shots ink) ≡ cond (h.dot ink y x) (count_by (of_row y) s.shots) 0
stroke-hits dead p h ink y x s low shape =
    let P : HeadStroke → Type 0 = λ s. rows_hits p.pitch (head_rows p) y x s.start (shot_rows p h s.shots ink)
    ≡ cond (h.dot ink y x) (count_by (of_row y) s.shots) 0 in
    subst P (sym shape.is) (nozzles-hit dead p h shape.wanted ink y x shape.start shape.start 0 p.nozzles low (omega arith) (omega arith))

-- all strokes
strokes-hit : (dead : List ℕ) (p : Printer) (h : Halftone) (ink : Ink) (y x : ℕ) (strokes : List HeadStroke) → x < h.width
    → AllByRecursion (IsStrokeAt (worn_head dead p h.height)) strokes
    → hits p (head_rows p) (map (healed_stroke p h) strokes) ink y x ≡ cond (h.dot ink y x) (count_by (of_row y) (firings_of strokes)) 0
strokes-hit dead p h ink y x [] low all = sym (if-none (h.dot ink y x) 0 refl)
strokes-hit dead p h ink y x (s ∷ strokes) low all =
    let dot : Bool = h.dot ink y x in
    sum_by-cons (λ (stroke : Stroke). rows_hits p.pitch (head_rows p) y x stroke.start (stroke.rows ink))
    (healed_stroke p h s) (map (healed_stroke p h) strokes)
    ∙ ap (λ n. n + hits p (head_rows p) (map (healed_stroke p h) strokes) ink y x) (stroke-hits dead p h ink y x s low all.0)
    ∙ ap (λ n. cond dot (count_by (of_row y) s.shots) 0 + n) (strokes-hit dead p h ink y x strokes low all.1)
    ∙ if-plus dot (count_by (of_row y) s.shots) (count_by (of_row y) (firings_of strokes))
    ∙ ap (λ n. cond dot n 0) (sym (count-append (of_row y) s.shots (firings_of strokes)))

-- the strokes fire each dot once
healed-hit : (dead : List ℕ) (p : Printer) (h : Halftone) → IsHead (worn_head dead p h.height) → FiresEachDot p h (healed dead p h)
unfolding of_row
healed-hit dead p h is =
    let head : Head = worn_head dead p h.height in
    each-of (λ ink. (y x : ℕ) → y < h.height → x < h.width → hits p (head_rows p) (healed dead p h).list ink y x
    ≡ cond (h.dot ink y x) 1 0) (inks_of p.inks) (λ ink y x low_y low_x.
    strokes-hit dead p h ink y x (all_strokes head) low_x (all-are head is)
    ∙ ap (λ n. cond (h.dot ink y x) n 0) (each-row head is y ∙ ap {B = ℕ} (λ b. cond b 1 0) (lt-ltb y h.height low_y)))

-- ---- the strokes go down the page, and are on the window

-- what holds of each stroke of the head holds of each stroke of the page
each-stroke : (p : Printer) (h : Halftone) (P : HeadStroke → Type 0) (Q : Stroke → Type 0) (strokes : List HeadStroke)
    → ((s : HeadStroke) → P s → Q (healed_stroke p h s)) → AllByRecursion P strokes → AllByRecursion Q (map (healed_stroke p h) strokes)
each-stroke p h P Q [] every all = tt
each-stroke p h P Q (s ∷ strokes) every all = (every s all.0, each-stroke p h P Q strokes every all.1)

at-or-below : (start : ℕ) (strokes : List HeadStroke) → AllByRecursion (λ (t : HeadStroke). start < t.start) strokes
    → AllByRecursion (λ (t : HeadStroke). start ≤ t.start) strokes
at-or-below start [] all = tt
at-or-below start (t ∷ strokes) all = (omega (arith, all.0), at-or-below start strokes all.1)

healed-rise : (p : Printer) (h : Halftone) (last : ℕ) (strokes : List HeadStroke) → AllByRecursion (λ (s : HeadStroke). last ≤ s.start) strokes
    → StartsRise strokes → GoDown last (map (healed_stroke p h) strokes)
healed-rise p h last [] above rises = tt
healed-rise p h last (s ∷ strokes) above rises =
    (above.0, healed-rise p h s.start strokes (at-or-below s.start strokes rises.0) rises.1)

from-zero : (strokes : List HeadStroke) → AllByRecursion (λ (s : HeadStroke). 0 ≤ s.start) strokes
from-zero [] = tt
from-zero (s ∷ strokes) = (omega arith, from-zero strokes)

-- one row for each nozzle, as wide as the window
rows-wide : (h : Halftone) (shots : List Shot) (ink : Ink) (is : List ℕ) → AllWide h.width (map (row_by h shots ink) is)
rows-wide h shots ink [] = tt
rows-wide h shots ink (i ∷ is) = (fired_row-len h ink (shot_row shots i), rows-wide h shots ink is)

stroke-whole : (p : Printer) (h : Halftone) (s : HeadStroke) (ink : Ink) → IsWhole p.nozzles h.width ((healed_stroke p h s).rows ink)
stroke-whole p h s ink = grind (arith, count_from-len, length-map, row_by, rows-wide)

-- the row at a nozzle's place is the nozzle's
nozzle-row : (p : Printer) (h : Halftone) (s : HeadStroke) (ink : Ink) (i : ℕ) → i < p.nozzles
    → slice_index_or ((healed_stroke p h s).rows ink) i [] ≡ row_by h s.shots ink i
nozzle-row p h s ink i few = grind (arith, counted-row, row_by)

stroke-on_window : (dead : List ℕ) (p : Printer) (h : Halftone) (s : HeadStroke) → IsStrokeAt (worn_head dead p h.height) s → (ink : Ink)
    → IsOnWindow p.pitch (head_rows p) h.height s.start ((healed_stroke p h s).rows ink)
stroke-on_window dead p h s shape ink = record {
  row = λ i e.
      let few : i < p.nozzles = counted-any (row_by h s.shots ink) 0 p.nozzles i e in
      let some = fired-some h ink (shot_row s.shots i) (ap (list_any (λ on. on)) (sym (nozzle-row p h s ink i few)) ∙ e) in
      let o : Over (worn_head dead p h.height) s.start i some.0 = row-over (worn_head dead p h.height) s i some.0 few shape some.1 in
      (omega (arith, o.place), omega (arith, o.place, o.low));
}

-- a head of a printer that can print
pub worn-is : (dead : List ℕ) (p : Printer) (height : ℕ) → CanPrint p → checked p.nozzles dead ≡ Ok tt → IsHead (worn_head dead p height)
worn-is dead p height can good =
    head-of p.nozzles p.pitch height dead (worn_head dead p height) can.some_nozzles can.some_pitch can.coprime good refl

-- The strokes of a head with dead nozzles print the halftone of their window.
pub healed-fires : (dead : List ℕ) (p : Printer) (h : Halftone) → CanPrint p → checked p.nozzles dead ≡ Ok tt → Fires p h (healed dead p h)
healed-fires dead p h can good =
    let head : Head = worn_head dead p h.height in
    let is : IsHead head = worn-is dead p h.height can good in
    let all = all-are head is in
    let whole = each-stroke p h (IsStrokeAt head) (λ stroke. (ink : Ink) → IsWhole p.nozzles h.width (stroke.rows ink)) (all_strokes head)
    (λ s shape. stroke-whole p h s) all in
    let on = each-stroke p h (IsStrokeAt head) (λ stroke. (ink : Ink)
    → IsOnWindow p.pitch (head_rows p) h.height stroke.start (stroke.rows ink)) (all_strokes head) (stroke-on_window dead p h) all in
    record {
      room = can.head_room;
      rising = healed-rise p h 0 (all_strokes head) (from-zero (all_strokes head)) (all-rise head is);
      whole = whole;
      on_window = on;
      once = fires-exactly p h (healed dead p h) can whole on (healed-hit dead p h is);
    }

-- ---- the bytes of the strokes

-- a dead nozzle fires nothing
dead-row : (head : Head) (s : HeadStroke) (i : ℕ) → i < head.nozzles → IsStrokeAt head s → has head.dead i ≡ true → shot_row s.shots i ≡ None
dead-row head s i few shape e = grind (arith, stroke-row, wanted_row)

-- No row of their rasters has a dot where its nozzle is dead.
pub healed-spared : (dead : List ℕ) (p : Printer) (h : Halftone) (tall : ℕ) → CanPrint p → checked p.nozzles dead ≡ Ok tt → Sized p h tall
    → RasterRows (IsSpared dead) (commands (healed_bytes dead p h (tall * row_units p))).entries
unfolding healed_bytes
healed-spared dead p h tall can good size =
    let head : Head = worn_head dead p h.height in
    let is : IsHead head = worn-is dead p h.height can good in
    rasters-have-rows p h page_coding (healed dead p h) tall (IsSpared dead) can page-coded size (healed-fires dead p h can good)
    (each-stroke p h (IsStrokeAt head) (StrokeRows (IsSpared dead) p.nozzles) (all_strokes head) spared (all-are head is))
  where
    spared : (s : HeadStroke) → IsStrokeAt (worn_head dead p h.height) s → StrokeRows (IsSpared dead) p.nozzles (healed_stroke p h s)
    spared s shape ink i few e x =
        ap (λ row. at row x) (nozzle-row p h s ink i few ∙ ap (fired_row h ink) (dead-row (worn_head dead p h.height) s i few shape e))
        ∙ no-dot h.width x

-- There are no more strokes than passes and missing rows.
pub healed-few : (dead : List ℕ) (p : Printer) (h : Halftone) → CanPrint p → checked p.nozzles dead ≡ Ok tt
    → length (healed dead p h).list ≤ healed_passes dead p h.height
healed-few dead p h can good =
    let head : Head = worn_head dead p h.height in
    omega (arith, length-map (all_strokes head) (healed_stroke p h), all-few head (worn-is dead p h.height can good))

-- So their job has no more rasters of an ink.
pub healed-rasters : (dead : List ℕ) (p : Printer) (h : Halftone) (tall : ℕ) → CanPrint p → checked p.nozzles dead ≡ Ok tt → Sized p h tall → (ink : Ink)
    → ink_rasters ink (commands (healed_bytes dead p h (tall * row_units p))).entries ≤ healed_passes dead p h.height
unfolding healed_bytes
healed-rasters dead p h tall can good size ink =
    omega (arith, few-rasters p h (healed dead p h) tall can size (healed-fires dead p h can good) ink, healed-few dead p h can good)
