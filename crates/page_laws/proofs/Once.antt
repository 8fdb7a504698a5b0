-- The dots that a page asks for are distinct.
use Rattle.std.proofs.lemmas.Grind.{common_steps}
use Rattle.std.proofs.Common.{◌≡◌, ℕ, zero, suc, ◌+◌, ◌*◌, ◌/◌, ◌<◌, ◌≤◌, Bool, true, false, cond, ◌&&◌, ◌==◌, if◌then◌else◌}
use Rattle.std.proofs.Common.{List, [], ◌∷◌, ◌++◌, refl, sym, ◌∙◌, ap, arith, subst, append_assoc}
use Rattle.std.proofs.lemmas.Bool.{eqb-true}
use Rattle.std.proofs.lemmas.Bool.Decides.{nat_tests}
use Rattle.std.proofs.lemmas.List.Sums.{sum_by-cons}
use Rattle.std.specs.List.{list_any, count_by, sum_by}
use Rattle.printer_definitions.specs.declared.inks.Ink.{Ink}
use Rattle.printer_definitions.specs.declared.inks.Ink.TheVariants.{Black, Cyan, Magenta, Yellow}
use Rattle.printer_definitions.specs.declared.inks.InkSet.{InkSet}
use Rattle.printer_definitions.specs.declared.inks.InkSet.TheVariants.{K, Cmy, Cmyk}
use Rattle.printer_definitions.specs.Inks.{inks_of, same_ink}
use Rattle.printer_definitions.specs.Printer.{Printer, column_step, row_step}
use Rattle.escp2_definitions.specs.Machine.{Dot, is_at}
use Rattle.page_definitions.specs.Dots.{Halftone, dots_wanted, ink_wanted, pixel_dots, place_of, row_wanted}
use Rattle.page_definitions.specs.Exact.{Exactly}
use Rattle.separation_definitions.specs.CanPrint.{CanPrint}
use Rattle.page_laws.proofs.Counts.{count-append, count-cons, few, flat-most, flat-none}
use Rattle.page_laws.proofs.Numbers.{column_place, column_step-some, rises, row_place, row_step-some}
use Rattle.base_definitions.specs.Counting.{count_from}

-- ---- one number among rising ones

-- a number below the next place is none of the places to come
past-all : (place : ℕ → ℕ) → ((a b : ℕ) → a < b → place a < place b) → (z n m : ℕ) → z < place n
    → sum_by (λ i. cond (z == place i) 1 0) (count_from n m) ≡ 0
past-all place up z n zero left = refl
past-all place up z n (suc m) left =
    let apart : (z == place n) ≡ false = grind (arith, nat_tests) in
    let next : place n < place (n + 1) = up n (n + 1) (omega arith) in
    sum_by-cons (λ i. cond (z == place i) 1 0) n (count_from (n + 1) m)
    ∙ ap (λ b. cond b 1 0 + sum_by (λ i. cond (z == place i) 1 0) (count_from (n + 1) m)) apart
    ∙ ap (λ k. 0 + k) (past-all place up z (n + 1) m (omega arith))

-- a number is one of rising places at most
at-most-one : (place : ℕ → ℕ) → ((a b : ℕ) → a < b → place a < place b) → (z n m : ℕ)
    → sum_by (λ i. cond (z == place i) 1 0) (count_from n m) ≤ 1
at-most-one place up z n zero = omega arith
at-most-one place up z n (suc m) = grind (arith, common_steps, eqb-true, past-all, sum_by-cons, at-most-one place up z (n + 1) m)

-- ---- the dots of a halftone

-- a test of three parts counts no more than each of them
part-most : (a b d : Bool) → record {
  first : cond (a && b && d) 1 0 ≤ cond a 1 0;
  second : cond (a && b && d) 1 0 ≤ cond b 1 0;
  third : cond (a && b && d) 1 0 ≤ cond d 1 0;
}
part-most true true true = record { first = omega arith; second = omega arith; third = omega arith }
part-most true true false = record { first = omega arith; second = omega arith; third = omega arith }
part-most true false true = record { first = omega arith; second = omega arith; third = omega arith }
part-most true false false = record { first = omega arith; second = omega arith; third = omega arith }
part-most false b d = record { first = omega arith; second = omega arith; third = omega arith }

-- a pixel has at most one dot, at its place
pixel-most : (p : Printer) (h : Halftone) (d : Dot) (ink : Ink) (y x : ℕ)
    → count_by (is_at d) (pixel_dots p h ink y x) ≤ cond (is_at d (place_of p ink y x)) 1 0
pixel-most p h d ink y x = grind (arith, count-cons)

-- a row has a dot once
row-once : (p : Printer) (h : Halftone) (d : Dot) (ink : Ink) (y : ℕ) → CanPrint p → count_by (is_at d) (row_wanted p h ink y) ≤ 1
row-once p h d ink y c =
    let place : ℕ → ℕ = λ x. x * 3600 / p.hdpi in
    let up : (a b : ℕ) → a < b → place a < place b = λ a b less.
    let r : a * column_step p < b * column_step p = rises a b (column_step p) (column_step-some p c) less in
    omega (arith, column_place p a c, column_place p b c) in
    let sum : count_by (is_at d) (row_wanted p h ink y) ≤ sum_by (λ x. cond (d.x == place x) 1 0) (count_from 0 h.width) =
    flat-most (is_at d) (pixel_dots p h ink y) (λ x. cond (d.x == place x) 1 0) (count_from 0 h.width)
    (λ x. let e = pixel-most p h d ink y x in
    let q = part-most (same_ink d.ink ink) (d.x == place x) (d.y == (p.top + y) * 3600 / p.vdpi) in omega (arith, e, q.second)) in
    omega (arith, sum, at-most-one place up d.x 0 h.width)

-- a row has its dots only in its own place
row-of : (p : Printer) (h : Halftone) (d : Dot) (ink : Ink) (y : ℕ) → CanPrint p
    → count_by (is_at d) (row_wanted p h ink y) ≤ cond (d.y == (p.top + y) * 3600 / p.vdpi) 1 0
row-of p h d ink y c = by_row (d.y == (p.top + y) * 3600 / p.vdpi) refl
  where
    by_row : (b : Bool) → (d.y == (p.top + y) * 3600 / p.vdpi) ≡ b → count_by (is_at d) (row_wanted p h ink y) ≤ cond b 1 0
    by_row true e = row-once p h d ink y c
    by_row false e =
        let none : count_by (is_at d) (row_wanted p h ink y) ≡ 0 =
        flat-none (is_at d) (pixel_dots p h ink y) (count_from 0 h.width)
        (λ x. let f = pixel-most p h d ink y x in
        let q = (part-most (same_ink d.ink ink) (d.x == x * 3600 / p.hdpi) (d.y == (p.top + y) * 3600 / p.vdpi)).third in
        let one_if : Bool → ℕ = λ b. cond b 1 0 in
        let off : one_if (d.y == (p.top + y) * 3600 / p.vdpi) ≡ 0 = ap one_if e in
        omega (arith, f, q, off)) in
        omega (arith, none)

-- an ink has a dot once
ink-once : (p : Printer) (h : Halftone) (d : Dot) (ink : Ink) → CanPrint p → count_by (is_at d) (ink_wanted p h ink) ≤ 1
ink-once p h d ink c =
    let place : ℕ → ℕ = λ y. (p.top + y) * 3600 / p.vdpi in
    let up : (a b : ℕ) → a < b → place a < place b = λ a b less.
    let r : (p.top + a) * row_step p < (p.top + b) * row_step p =
    rises (p.top + a) (p.top + b) (row_step p) (row_step-some p c) (omega arith) in
    omega (arith, row_place p (p.top + a) c, row_place p (p.top + b) c) in
    let sum : count_by (is_at d) (ink_wanted p h ink) ≤ sum_by (λ y. cond (d.y == place y) 1 0) (count_from 0 h.height) =
    flat-most (is_at d) (row_wanted p h ink) (λ y. cond (d.y == place y) 1 0) (count_from 0 h.height) (λ y. row-of p h d ink y c) in
    omega (arith, sum, at-most-one place up d.y 0 h.height)

-- an ink has only its own dots
ink-of : (p : Printer) (h : Halftone) (d : Dot) (ink : Ink)
    → CanPrint p → count_by (is_at d) (ink_wanted p h ink) ≤ cond (same_ink d.ink ink) 1 0
ink-of p h d ink c = by_same (same_ink d.ink ink) refl
  where
    by_same : (b : Bool) → same_ink d.ink ink ≡ b → count_by (is_at d) (ink_wanted p h ink) ≤ cond b 1 0
    by_same true e = ink-once p h d ink c
    by_same false e =
        let none : count_by (is_at d) (ink_wanted p h ink) ≡ 0 =
        flat-none (is_at d) (row_wanted p h ink) (count_from 0 h.height) (λ y.
        flat-none (is_at d) (pixel_dots p h ink y) (count_from 0 h.width) (λ x.
        let f = pixel-most p h d ink y x in
        let q = (part-most (same_ink d.ink ink) (d.x == x * 3600 / p.hdpi) (d.y == (p.top + y) * 3600 / p.vdpi)).first in
        let one_if : Bool → ℕ = λ b. cond b 1 0 in
        let off : one_if (same_ink d.ink ink) ≡ 0 = ap one_if e in
        omega (arith, f, q, off))) in
        omega (arith, none)

-- a set has an ink once
set-most : (set : InkSet) (i : Ink) → sum_by (λ ink. cond (same_ink i ink) 1 0) (inks_of set) ≤ 1
set-most K Black = omega arith
set-most K Cyan = omega arith
set-most K Magenta = omega arith
set-most K Yellow = omega arith
set-most Cmy Black = omega arith
set-most Cmy Cyan = omega arith
set-most Cmy Magenta = omega arith
set-most Cmy Yellow = omega arith
set-most Cmyk Black = omega arith
set-most Cmyk Cyan = omega arith
set-most Cmyk Magenta = omega arith
set-most Cmyk Yellow = omega arith

-- No dot is in the list twice.
abbrev pub Once : List Dot → Type 0
Once dots = (d : Dot) → count_by (is_at d) dots ≤ 1

-- the dots of a halftone are distinct
pub wanted-once : (p : Printer) (h : Halftone) → CanPrint p → Once (dots_wanted p h)
wanted-once p h c d =
    let sum : count_by (is_at d) (dots_wanted p h) ≤ sum_by (λ ink. cond (same_ink d.ink ink) 1 0) (inks_of p.inks) =
    flat-most (is_at d) (ink_wanted p h) (λ ink. cond (same_ink d.ink ink) 1 0) (inks_of p.inks) (λ ink. ink-of p h d ink c) in
    omega (arith, sum, set-most p.inks d.ink)

-- Dots that are counted as often as places, each of which occurs once, are exactly these places.
pub exactly : (dots places : List Dot)
    → ((d : Dot) → count_by (is_at d) dots ≡ count_by (is_at d) places) → Once places → Exactly dots places
exactly dots places same once = record { counts = λ d. same d ∙ few (is_at d) places (once d) }

-- Dots that are exactly these places occur once.
pub exactly-once : (dots places : List Dot) → Exactly dots places → Once dots
exactly-once dots places is d = by_any (list_any (is_at d) places) (is.counts d)
  where
    by_any : (b : Bool) → count_by (is_at d) dots ≡ (if b then 1 else 0) → count_by (is_at d) dots ≤ 1
    by_any true e = omega arith
    by_any false e = omega arith

-- ---- dots among others

-- dots that occur once in a list occur once in a prefix of it
pub once-front : (a b more : List Dot) → Once (a ++ (b ++ more)) → Once (a ++ b)
once-front a b more once d =
    omega (arith, once d, count-append (is_at d) a (b ++ more), count-append (is_at d) b more, count-append (is_at d) a b)

-- the same list, grouped in another way
pub once-regroup : (a b more : List Dot) → Once (a ++ (b ++ more)) → Once ((a ++ b) ++ more)
once-regroup a b more once = let P : List Dot → Type 0 = λ ds. Once ds in subst P (sym (append_assoc a b more)) once
