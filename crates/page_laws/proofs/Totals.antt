-- Counts of dots as sums over a window.
use Rattle.std.proofs.Common.{◌≡◌, ◌≢◌, ℕ, zero, suc, ◌+◌, ◌<◌, Bool, true, false, cond, ◌&&◌, ◌==◌, if◌then◌else◌}
use Rattle.std.proofs.Common.{List, [], ◌∷◌, length, refl, sym, ◌∙◌, ap, arith}
use Rattle.std.proofs.lemmas.Bool.{and_right, eq-eqb, ne_eqb}
use Rattle.std.proofs.lemmas.List.Sums.{sum_by-cons}
use Rattle.std.specs.List.{list_any, count_by, sum_by}
use Rattle.printer_definitions.specs.declared.inks.Ink.{Ink}
use Rattle.printer_definitions.specs.Inks.{inks_of}
use Rattle.printer_definitions.specs.Printer.{Printer}
use Rattle.escp2_definitions.specs.Machine.{Dot, is_at}
use Rattle.base_definitions.specs.Packed.{at}
use Rattle.page_definitions.specs.Dots.{Halftone, dots_wanted, place_of}
use Rattle.page_definitions.specs.Strokes.{row_fired}
use Rattle.base_definitions.specs.Counting.{count_from}
use Rattle.weave_definitions.proofs.Firings.{count-flat}
use Rattle.page_laws.proofs.Counts.{count-append, count-cons, each-from, each-of, if-none, if-plus}
use Rattle.page_laws.proofs.Counts.{sum-none, sum-one, sum-plus, sum-same}

-- ---- sums over a window

-- the sum of a number at each place of a window that passes a test
abbrev pub total : (ℕ → ℕ → Bool) → ℕ → ℕ → (ℕ → ℕ → ℕ) → ℕ
total test height width g = sum_by (λ y. sum_by (λ x. cond (test y x) (g y x) 0) (count_from 0 width)) (count_from 0 height)

-- numbers that are equal on the window
pub total-same : (test : ℕ → ℕ → Bool) (height width : ℕ) (f g : ℕ → ℕ → ℕ) → ((y x : ℕ) → y < height → x < width → f y x ≡ g y x)
    → total test height width f ≡ total test height width g
total-same test height width f g same =
    sum-same (λ y. sum_by (λ x. cond (test y x) (f y x) 0) (count_from 0 width))
    (λ y. sum_by (λ x. cond (test y x) (g y x) 0) (count_from 0 width)) (count_from 0 height)
    (each-from (λ y. sum_by (λ x. cond (test y x) (f y x) 0) (count_from 0 width)
    ≡ sum_by (λ x. cond (test y x) (g y x) 0) (count_from 0 width)) 0 height
    (λ y first_y last_y.
    sum-same (λ x. cond (test y x) (f y x) 0) (λ x. cond (test y x) (g y x) 0) (count_from 0 width)
    (each-from (λ x. cond (test y x) (f y x) 0 ≡ cond (test y x) (g y x) 0) 0 width
    (λ x first_x last_x. ap (λ n. cond (test y x) n 0) (same y x (omega arith) (omega arith))))))

-- numbers that are 0 on the window
pub total-none : (test : ℕ → ℕ → Bool) (height width : ℕ) (f : ℕ → ℕ → ℕ) → ((y x : ℕ) → f y x ≡ 0) → total test height width f ≡ 0
total-none test height width f none = simp (each-of, if-none, sum-none)

-- the sum of sums of two numbers
pub total-plus : (test : ℕ → ℕ → Bool) (height width : ℕ) (f g : ℕ → ℕ → ℕ)
    → total test height width (λ y x. f y x + g y x) ≡ total test height width f + total test height width g
total-plus test height width f g =
    let of : (ℕ → ℕ → ℕ) → ℕ → ℕ = λ h y. sum_by (λ x. cond (test y x) (h y x) 0) (count_from 0 width) in
    sum-same (of (λ y x. f y x + g y x)) (λ y. of f y + of g y) (count_from 0 height)
    (each-of (λ y. of (λ y x. f y x + g y x) y ≡ of f y + of g y) (count_from 0 height) (λ y.
    sum-same (λ x. cond (test y x) (f y x + g y x) 0) (λ x. cond (test y x) (f y x) 0 + cond (test y x) (g y x) 0) (count_from 0 width)
    (each-of (λ x. cond (test y x) (f y x + g y x) 0 ≡ cond (test y x) (f y x) 0 + cond (test y x) (g y x) 0)
    (count_from 0 width) (λ x. sym (if-plus (test y x) (f y x) (g y x))))
    ∙ sum-plus (λ x. cond (test y x) (f y x) 0) (λ x. cond (test y x) (g y x) 0) (count_from 0 width)))
    ∙ sum-plus (of f) (of g) (count_from 0 height)

-- ---- one row

-- a row without a dot has none at any column
blank-at : (row : List Bool) (x : ℕ) → list_any (λ on. on) row ≡ false → at row x ≡ false
blank-at [] x e = refl
blank-at (true ∷ row) x e = cc
blank-at (false ∷ row) zero e = refl
blank-at (false ∷ row) (suc x) e = blank-at row x e

-- a dot, where there is one, passes a test or does not
dot-count : (test : Dot → Bool) (d : Dot) (b : Bool) → count_by test (if b then d ∷ [] else []) ≡ cond (test d) (cond b 1 0) 0
dot-count test d b = grind (arith, count-cons)

-- the dots of a row at a place on paper, column by column
row-count : (p : Printer) (d : Dot) (ink : Ink) (y x : ℕ) (on : ℕ → Bool) (row : List Bool) → ((j : ℕ) → at row j ≡ on (x + j))
    → count_by (is_at d) (row_fired p ink y x row)
    ≡ sum_by (λ j. cond (is_at d (place_of p ink y j)) (cond (on j) 1 0) 0) (count_from x (length row))
row-count p d ink y x on [] same = refl
row-count p d ink y x on (b ∷ row) same =
    let term : ℕ → ℕ = λ j. cond (is_at d (place_of p ink y j)) (cond (on j) 1 0) 0 in
    let none : x + 0 ≡ x = omega arith in
    let here : b ≡ on x = same 0 ∙ ap on none in
    let header : count_by (is_at d) (if b then place_of p ink y x ∷ [] else []) ≡ term x =
    dot-count (is_at d) (place_of p ink y x) b ∙ ap (λ c. cond (is_at d (place_of p ink y x)) (cond c 1 0) 0) here in
    let rest : count_by (is_at d) (row_fired p ink y (x + 1) row) ≡ sum_by term (count_from (x + 1) (length row)) =
    row-count p d ink y (x + 1) on row (λ j. let next : x + suc j ≡ x + 1 + j = omega arith in same (suc j) ∙ ap on next) in
    count-append (is_at d) (if b then place_of p ink y x ∷ [] else []) (row_fired p ink y (x + 1) row)
    ∙ ap (λ n. n + count_by (is_at d) (row_fired p ink y (x + 1) row)) header
    ∙ ap (λ n. term x + n) rest
    ∙ sym (sum_by-cons term x (count_from (x + 1) (length row)))

-- the same as a sum over the window, in which the row is the only one with dots
pub row-total : (p : Printer) (d : Dot) (ink : Ink) (height width y : ℕ) (row : List Bool)
    → length row ≡ width → (list_any (λ on. on) row ≡ true → y < height)
    → count_by (is_at d) (row_fired p ink y 0 row)
    ≡ total (λ y x. is_at d (place_of p ink y x)) height width (λ y' x. cond ((y == y') && at row x) 1 0)
row-total p d ink height width y row wide low =
    row-count p d ink y 0 (at row) row (λ j. let same : j ≡ 0 + j = omega arith in ap (at row) same)
    ∙ ap (λ n. sum_by (λ j. cond (test y j) (cond (at row j) 1 0) 0) (count_from 0 n)) wide
    ∙ by_row (list_any (λ on. on) row) refl
  where
    test : ℕ → ℕ → Bool
    test y x = is_at d (place_of p ink y x)

    of : ℕ → ℕ
    of y' = sum_by (λ x. cond (test y' x) (cond ((y == y') && at row x) 1 0) 0) (count_from 0 width)

    other : (y' : ℕ) → y' ≢ y → of y' ≡ 0
    other y' apart =
        sum-none (λ x. cond (test y' x) (cond ((y == y') && at row x) 1 0) 0) (count_from 0 width)
        (each-of (λ x. cond (test y' x) (cond ((y == y') && at row x) 1 0) 0 ≡ 0) (count_from 0 width) (λ x.
        if-none (test y' x) (cond ((y == y') && at row x) 1 0) (ap (λ b. cond (b && at row x) 1 0) (ne_eqb y y' (λ e. apart (sym e))))))

    by_row : (b : Bool) → list_any (λ on. on) row ≡ b
        → sum_by (λ x. cond (test y x) (cond (at row x) 1 0) 0) (count_from 0 width) ≡ sum_by of (count_from 0 height)
    by_row true e =
        let bound : y < height = low e in
        ap (λ b. sum_by (λ x. cond (test y x) (cond (b && at row x) 1 0) 0) (count_from 0 width)) (sym (eq-eqb y y refl))
        ∙ sym (sum-one of y 0 height (omega arith) (omega (arith, bound)) other)
    by_row false e =
        let one_if : Bool → ℕ = λ b. cond b 1 0 in
        let blank : (y' x : ℕ) → one_if ((y == y') && at row x) ≡ 0 =
        λ y' x. ap one_if (and_right (y == y') (at row x) (blank-at row x e)) in
        sum-none (λ x. cond (test y x) (cond (at row x) 1 0) 0) (count_from 0 width)
        (each-of (λ x. cond (test y x) (cond (at row x) 1 0) 0 ≡ 0) (count_from 0 width)
        (λ x. if-none (test y x) (cond (at row x) 1 0) (ap (λ b. cond b 1 0) (blank-at row x e))))
        ∙ sym (total-none test height width (λ y' x. cond ((y == y') && at row x) 1 0) blank)

-- ---- the dots of a halftone

-- the dots of a halftone that pass a test, ink by ink
pub wanted-total : (p : Printer) (h : Halftone) (test : Dot → Bool)
    → count_by test (dots_wanted p h) ≡ sum_by (λ ink.
    total (λ y x. test (place_of p ink y x)) h.height h.width (λ y x. cond (h.dot ink y x) 1 0)) (inks_of p.inks)
wanted-total p h test = simp (count-flat, dot-count, each-of, sum-same, total)
