-- Shingled passes over a window print its halftone.
use Rattle.std.proofs.lemmas.Grind.{common_steps}
use Rattle.std.proofs.Common.{◌≡◌, ℕ, zero, suc, ◌+◌, ◌-◌, ◌*◌, ◌<◌, ◌≤◌, Bool, true, false, cond, not, ◌&&◌, ◌==◌, nat_lt, nat_le}
use Rattle.std.proofs.Common.{if◌then◌else◌, List, [], ◌∷◌, map, Option, None, Some, refl, sym, ◌∙◌, ap, arith, subst}
use Rattle.std.specs.List.{AllByRecursion, count_by, flat_map, list_any}
use Rattle.std.specs.Prelude.{slice_index_or}
use Rattle.std.proofs.lemmas.Bool.{and_right, eqb-true, lt-ltb}
use Rattle.std.proofs.lemmas.Bool.Decides.{nat_tests}
use Rattle.std.proofs.lemmas.List.{length-map}
use Rattle.std.proofs.lemmas.List.Sums.{sum_by-cons}
use Rattle.std.proofs.Math.Nat.{mul-le-mul_right}
use Rattle.std.proofs.lemmas.Nat.{div-add-mod'}
use Rattle.printer_definitions.specs.declared.inks.Ink.{Ink}
use Rattle.printer_definitions.specs.Inks.{inks_of}
use Rattle.printer_definitions.specs.Printer.{Printer, row_units}
use Rattle.base_definitions.specs.Counting.{count_from}
use Rattle.base_definitions.specs.Packed.{at}
use Rattle.escp2_definitions.specs.Commands.{commands}
use Rattle.separation_definitions.specs.CanPrint.{CanPrint}
use Rattle.page_definitions.specs.Dots.{Halftone}
use Rattle.page_definitions.specs.PageBytes.{fired_row, page_coding}
use Rattle.page_definitions.specs.RasterRows.{FiresHalf, RasterRows, StrokeRows}
use Rattle.page_definitions.specs.Shingled.{shingled, shingled_bytes, shingled_row, shingled_stroke}
use Rattle.page_definitions.specs.Strokes.{Fires, GoDown, IsOnWindow, IsWhole, Stroke}
use Rattle.shingle_plan.specs.Fits.{Shingles}
use Rattle.shingle_plan.specs.Shingles.{Shingle, fires_even, half, rows_above, shingle, shingle_count, shingle_row}
use Rattle.shingle_plan.proofs.Rows.{lands}
use Rattle.shingle_plan.proofs.Twice.{each_row}
use Rattle.page_laws.specs.Sized.{Sized}
use Rattle.page_laws.proofs.Counts.{count-append, count-cons, each-of, if-none, if-plus}
use Rattle.page_laws.proofs.Fired.{AllWide}
use Rattle.page_laws.proofs.Halves.{at-other, kept, kept-not, other-any, other-half, other-len}
use Rattle.page_laws.proofs.Headline.{page-coded}
use Rattle.page_laws.proofs.Hits.{FiresEachDot, fires-exactly, hits, rows_hits}
use Rattle.page_laws.proofs.Passes.{at-counted, blank, count_from-len, fired_row-len, no-dot}
use Rattle.page_laws.proofs.RasterRows.{rasters-have-rows}

-- ---- how often the passes fire a place

-- A test of shingles that finds those of row y that fire column x.
abbrev Finds : (Shingle → Bool) → ℕ → ℕ → ℕ → Type 0
Finds test n y x = (t i row : ℕ)
    → test (record { pass = t; nozzle = i; row = row; even = fires_even n i }) ≡ ((row == y) && kept (fires_even n i) x)

-- the shingles of a nozzle in a pass
abbrev of_nozzle : Printer → Halftone → ℕ → ℕ → List Shingle
of_nozzle p h t i = shingle t i (fires_even p.nozzles i) (shingle_row p.nozzles p.pitch h.height t i)

-- a dot of a kept column of this row counts once
one-counts : (same keep dot : Bool) → cond (same && (keep && dot)) 1 0 ≡ cond dot (cond (same && keep) 1 0 + 0) 0
one-counts true true true = refl
one-counts true true false = refl
one-counts true false true = refl
one-counts true false false = refl
one-counts false keep true = refl
one-counts false keep false = refl

-- one nozzle in one pass fires a dot of its row, once
nozzle-hits : (test : Shingle → Bool) (p : Printer) (h : Halftone) (ink : Ink) (y x t i : ℕ) → Finds test p.nozzles y x → x < h.width
    → cond ((t * half p.nozzles + i * p.pitch - rows_above p.nozzles p.pitch == y) && at (shingled_row p h t ink i) x) 1 0
    ≡ cond (h.dot ink y x) (count_by test (of_nozzle p h t i)) 0
nozzle-hits test p h ink y x t i finds low =
    grind (arith, and_right, at-counted, at-other, count-cons, eqb-true, if-none, kept, lands, no-dot, one-counts)

-- the nozzles of one pass
pass-hits : (test : Shingle → Bool) (p : Printer) (h : Halftone) (ink : Ink) (y x t start i many : ℕ) → Finds test p.nozzles y x → x < h.width
    → start ≡ t * half p.nozzles + i * p.pitch
    → rows_hits p.pitch (rows_above p.nozzles p.pitch) y x start (map (shingled_row p h t ink) (count_from i many))
    ≡ cond (h.dot ink y x) (count_by test (flat_map (of_nozzle p h t) (count_from i many))) 0
pass-hits test p h ink y x t start i zero finds low e = sym (if-none (h.dot ink y x) 0 refl)
pass-hits test p h ink y x t start i (suc many) finds low e =
    let above : ℕ = rows_above p.nozzles p.pitch in
    let rows : List (List Bool) = map (shingled_row p h t ink) (count_from (i + 1) many) in
    let others : List Shingle = flat_map (of_nozzle p h t) (count_from (i + 1) many) in
    let one_if : Bool → ℕ = λ b. cond b 1 0 in
    let next : start + p.pitch ≡ t * half p.nozzles + (i + 1) * p.pitch = omega (arith, e) in
    ap (λ n. one_if ((n - above == y) && at (shingled_row p h t ink i) x) + rows_hits p.pitch above y x (start + p.pitch) rows) e
    ∙ ap (λ n. n + rows_hits p.pitch above y x (start + p.pitch) rows) (nozzle-hits test p h ink y x t i finds low)
    ∙ ap (λ n. cond (h.dot ink y x) (count_by test (of_nozzle p h t i)) 0 + n)
    (pass-hits test p h ink y x t (start + p.pitch) (i + 1) many finds low next)
    ∙ if-plus (h.dot ink y x) (count_by test (of_nozzle p h t i)) (count_by test others)
    ∙ ap (λ n. cond (h.dot ink y x) n 0) (sym (count-append test (of_nozzle p h t i) others))

-- all the passes
passes-hit : (test : Shingle → Bool) (p : Printer) (h : Halftone) (ink : Ink) (y x : ℕ) (ts : List ℕ) → Finds test p.nozzles y x → x < h.width
    → hits p (rows_above p.nozzles p.pitch) (map (shingled_stroke p h) ts) ink y x
    ≡ cond (h.dot ink y x) (count_by test (flat_map (λ t. flat_map (of_nozzle p h t) (count_from 0 p.nozzles)) ts)) 0
passes-hit test p h ink y x [] finds low = sym (if-none (h.dot ink y x) 0 refl)
passes-hit test p h ink y x (t ∷ ts) finds low =
    grind (arith, common_steps, count-append, hits, if-plus, of_nozzle, pass-hits, rows_hits, sum_by-cons, passes-hit test p h ink y x ts finds low)

-- ---- the law's tests find the shingles of a column

-- those with even columns, at an even column
even-finds : (n y x : ℕ) → kept true x ≡ true
    → Finds (λ (f : Shingle). f.row == y && (nat_le (half n) f.nozzle && f.even)) n y x
even-finds n y x e t i row = grind (arith, kept, kept-not)

-- those with odd columns, at an odd column
odd-finds : (n y x : ℕ) → kept true x ≡ false
    → Finds (λ (f : Shingle). f.row == y && (nat_lt f.nozzle (half n) && not f.even)) n y x
odd-finds n y x e t i row = grind (arith, kept, kept-not, nat_tests)

-- the passes fire each dot once
shingles-hit : (p : Printer) (h : Halftone) → Shingles p.nozzles p.pitch → FiresEachDot p h (shingled p h)
shingles-hit p h fits =
    each-of (λ ink. (y x : ℕ) → y < h.height → x < h.width → hits p above (shingled p h).list ink y x
    ≡ cond (h.dot ink y x) 1 0) (inks_of p.inks) (λ ink y x low_y low_x. by_column ink y x low_y low_x (kept true x) refl)
  where
    above : ℕ
    above = rows_above p.nozzles p.pitch

    ts : List ℕ
    ts = count_from 0 (shingle_count p.nozzles p.pitch h.height)

    value : Bool → ℕ
    value b = if b then 1 else 0

    on_window : (y : ℕ) → y < h.height → value (nat_lt y h.height) ≡ 1
    on_window y low = ap value (lt-ltb y h.height low)

    by_column : (ink : Ink) (y x : ℕ) → y < h.height → x < h.width → (b : Bool) → kept true x ≡ b
        → hits p above (shingled p h).list ink y x ≡ cond (h.dot ink y x) 1 0
    by_column ink y x low_y low_x true e =
        passes-hit (λ (f : Shingle). f.row == y && (nat_le (half p.nozzles) f.nozzle && f.even)) p h ink y x ts
        (even-finds p.nozzles y x e) low_x
        ∙ ap (λ n. cond (h.dot ink y x) n 0) ((each_row p.nozzles p.pitch h.height fits).even y ∙ on_window y low_y)
    by_column ink y x low_y low_x false e =
        passes-hit (λ (f : Shingle). f.row == y && (nat_lt f.nozzle (half p.nozzles) && not f.even)) p h ink y x ts
        (odd-finds p.nozzles y x e) low_x
        ∙ ap (λ n. cond (h.dot ink y x) n 0) ((each_row p.nozzles p.pitch h.height fits).odd y ∙ on_window y low_y)

-- ---- the passes as strokes

-- each pass begins below the one before
shingles-rise : (p : Printer) (h : Halftone) (last t many : ℕ)
    → last ≤ t * half p.nozzles → GoDown last (map (shingled_stroke p h) (count_from t many))
shingles-rise p h last t zero le = tt
shingles-rise p h last t (suc many) le = (le, shingles-rise p h (t * half p.nozzles) (t + 1) many (omega arith))

-- what holds of each pass holds of each stroke
each-stroke : (p : Printer) (h : Halftone) (P : Stroke → Type 0) (ts : List ℕ)
    → ((t : ℕ) → P (shingled_stroke p h t)) → AllByRecursion P (map (shingled_stroke p h) ts)
each-stroke p h P [] every = tt
each-stroke p h P (t ∷ ts) every = (every t, each-stroke p h P ts every)

-- one row for each nozzle, as wide as the window
rows-wide : (p : Printer) (h : Halftone) (t : ℕ) (ink : Ink) (is : List ℕ) → AllWide h.width (map (shingled_row p h t ink) is)
rows-wide p h t ink [] = tt
rows-wide p h t ink (i ∷ is) = grind (arith, fired_row-len, other-len, rows-wide p h t ink is)

stroke-whole : (p : Printer) (h : Halftone) (t : ℕ) (ink : Ink) → IsWhole p.nozzles h.width ((shingled_stroke p h t).rows ink)
stroke-whole p h t ink = grind (arith, count_from-len, length-map, rows-wide)

-- the row at a counted place
pub counted-row : (f : ℕ → List Bool) (n many i : ℕ) → i < many → slice_index_or (map f (count_from n many)) i [] ≡ f (n + i)
counted-row f n zero i low = absurd (omega arith)
counted-row f n (suc many) zero low = ap f (let same : n ≡ n + 0 = omega arith in same)
counted-row f n (suc many) (suc i) low =
    counted-row f (n + 1) many i (omega arith) ∙ ap f (let same : n + 1 + i ≡ n + suc i = omega arith in same)

-- a place with a row that has a dot is one of those counted
pub counted-any : (f : ℕ → List Bool) (n many i : ℕ)
    → list_any (λ on. on) (slice_index_or (map f (count_from n many)) i []) ≡ true → i < many
counted-any f n zero i e = absurd (let no : ⊥ = cc in no)
counted-any f n (suc many) zero e = omega arith
counted-any f n (suc many) (suc i) e = let below : i < many = counted-any f (n + 1) many i e in omega arith

-- a row that fires a dot is on the window
pub fired-some : (h : Halftone) (ink : Ink) (row : Option ℕ) → list_any (λ on. on) (fired_row h ink row) ≡ true → (y : ℕ) × (row ≡ Some y)
fired-some h ink None e = absurd (let off : false ≡ true = sym (blank h.width) ∙ e in let no : ⊥ = cc in no)
fired-some h ink (Some y) e = (y, refl)

-- a pass fires only on the window
stroke-on_window : (p : Printer) (h : Halftone) (t : ℕ) (ink : Ink)
    → IsOnWindow p.pitch (rows_above p.nozzles p.pitch) h.height (t * half p.nozzles) ((shingled_stroke p h t).rows ink)
stroke-on_window p h t ink = grind (arith, counted-any, counted-row, fired-some, lands, other-any)

-- The head begins no higher than one that fires by all its nozzles, so that there is room for it.
pub above-room : (p : Printer) → CanPrint p → Shingles p.nozzles p.pitch → rows_above p.nozzles p.pitch ≤ p.top
above-room p can fits = grind (arith, div-add-mod', mul-le-mul_right)

-- Shingled passes over a window print its halftone.
pub shingles-fire : (p : Printer) (h : Halftone) → CanPrint p → Shingles p.nozzles p.pitch → Fires p h (shingled p h)
shingles-fire p h can fits =
    let above : ℕ = rows_above p.nozzles p.pitch in
    let ts : List ℕ = count_from 0 (shingle_count p.nozzles p.pitch h.height) in
    let whole = each-stroke p h (λ stroke. (ink : Ink) → IsWhole p.nozzles h.width (stroke.rows ink)) ts (stroke-whole p h) in
    let on = each-stroke p h (λ stroke. (ink : Ink)
    → IsOnWindow p.pitch above h.height stroke.start (stroke.rows ink)) ts (stroke-on_window p h) in
    record {
      room = above-room p can fits;
      rising = shingles-rise p h 0 0 (shingle_count p.nozzles p.pitch h.height) (omega arith);
      whole = whole;
      on_window = on;
      once = fires-exactly p h (shingled p h) can whole on (shingles-hit p h fits);
    }

-- ---- the bytes of the passes

-- No row of their rasters has dots both at even and at odd columns.
pub shingled-halves : (p : Printer) (h : Halftone) (tall : ℕ) → CanPrint p → Shingles p.nozzles p.pitch → Sized p h tall
    → RasterRows FiresHalf (commands (shingled_bytes p h (tall * row_units p))).entries
unfolding shingled_bytes
shingled-halves p h tall can fits size =
    rasters-have-rows p h page_coding (shingled p h) tall FiresHalf can page-coded size (shingles-fire p h can fits)
    (each-stroke p h (StrokeRows FiresHalf p.nozzles) (count_from 0 (shingle_count p.nozzles p.pitch h.height)) stroke-halves)
  where
    stroke-halves : (t : ℕ) → StrokeRows FiresHalf p.nozzles (shingled_stroke p h t)
    stroke-halves t ink i low =
        let place : 0 + i ≡ i = omega arith in
        let same : slice_index_or (map (shingled_row p h t ink) (count_from 0 p.nozzles)) i [] ≡ shingled_row p h t ink i =
        counted-row (shingled_row p h t ink) 0 p.nozzles i low ∙ ap (shingled_row p h t ink) place in
        let P : List Bool → Type 0 = λ row. FiresHalf i (λ x. at row x) in
        subst P (sym same) (other-half i (fires_even p.nozzles i) (fired_row h ink (shingle_row p.nozzles p.pitch h.height t i)))
