-- The dots of an ink are those of its plane in a table of dots.
use Rattle.std.proofs.Common.{◌≡◌, ℕ, zero, suc, Bool, true, false, cond, List, [], ◌∷◌, Some, refl, sym, ◌∙◌, ap, subst, arith}
use Rattle.std.specs.Prelude.{slice_get}
use Rattle.std.specs.List.{count_by, list_any, sum_by}
use Rattle.std.proofs.lemmas.List.Sums.{sum_by-cons}
use Rattle.printer_definitions.specs.declared.inks.Ink.{Ink}
use Rattle.printer_definitions.specs.declared.inks.Ink.TheVariants.{Black, Cyan, Magenta, Yellow}
use Rattle.printer_definitions.specs.declared.inks.InkSet.{InkSet}
use Rattle.printer_definitions.specs.declared.inks.InkSet.TheVariants.{K, Cmy, Cmyk}
use Rattle.printer_definitions.specs.Inks.{ink_place, inks_of, same_ink}
use Rattle.printer_definitions.specs.Printer.{Printer}
use Rattle.escp2_definitions.specs.Machine.{Dot}
use Rattle.page_definitions.specs.Dots.{Halftone, HasDots, dots_wanted}
use Rattle.base_definitions.specs.Counting.{count_from}
use Rattle.std.proofs.lemmas.Bool.{eq-eqb}
use Rattle.page_laws.proofs.Counts.{each-from, each-of, sum-none, sum-same}
use Rattle.page_laws.proofs.Fired.{or-false}
use Rattle.page_laws.proofs.Totals.{total, wanted-total}

-- a sum over a set is that of one ink, where the others count nothing
abbrev Only : InkSet → (Ink → ℕ) → Ink → Type 0
Only set f ink = ((other : Ink) → same_ink ink other ≡ false → f other ≡ 0) → sum_by f (inks_of set) ≡ f ink

only : (set : InkSet) (i : ℕ) (ink : Ink) (f : Ink → ℕ) → slice_get (inks_of set) i ≡ Some ink → Only set f ink
only K zero ink f e = subst (Only K f) (let same : Black ≡ ink = cc in same) (λ none. omega arith)
only K (suc i) ink f e = cc
only Cmy zero ink f e =
    subst (Only Cmy f) (let same : Cyan ≡ ink = cc in same) (λ none. omega (arith, none Magenta refl, none Yellow refl))
only Cmy (suc zero) ink f e =
    subst (Only Cmy f) (let same : Magenta ≡ ink = cc in same) (λ none. omega (arith, none Cyan refl, none Yellow refl))
only Cmy (suc (suc zero)) ink f e =
    subst (Only Cmy f) (let same : Yellow ≡ ink = cc in same) (λ none. omega (arith, none Cyan refl, none Magenta refl))
only Cmy (suc (suc (suc i))) ink f e = cc
only Cmyk zero ink f e = grind (arith, Only)
only Cmyk (suc zero) ink f e = grind (arith, Only)
only Cmyk (suc (suc zero)) ink f e = grind (arith, Only)
only Cmyk (suc (suc (suc zero))) ink f e = grind (arith, Only)
only Cmyk (suc (suc (suc (suc i)))) ink f e = cc

-- a sum over a set without the ink that counts
without : (inks : List Ink) (ink : Ink) (f : Ink → ℕ)
    → list_any (same_ink ink) inks ≡ false → ((other : Ink) → same_ink ink other ≡ false → f other ≡ 0)
    → sum_by f inks ≡ 0
without [] ink f e others = refl
without (other ∷ inks) ink f e others =
    let both = or-false (same_ink ink other) (list_any (same_ink ink) inks) e in
    omega (arith, sum_by-cons f other inks, others other both.left, without inks ink f both.right others)

-- where nothing passes the sum is 0
no-total : (b : Bool) (height width : ℕ) (g : ℕ → ℕ → ℕ) → b ≡ false → total (λ y x. b) height width g ≡ 0
no-total b height width g e = grind (arith, each-of, sum-none)

-- the dots of an ink in a halftone
ink_dots : Halftone → Ink → Ink → ℕ
ink_dots h ink other = total (λ y x. same_ink ink other) h.height h.width (λ y x. cond (h.dot other y x) 1 0)

-- An ink of the set has as many dots as its plane.
pub plane-counts : (p : Printer) (h : Halftone) (width rows inks : ℕ) (dot : ℕ → ℕ → ℕ → Bool) (i : ℕ) (ink : Ink)
    → HasDots p h width rows inks dot
    → slice_get (inks_of p.inks) i ≡ Some ink
    → count_by (λ (d : Dot). same_ink ink d.ink) (dots_wanted p h)
    ≡ sum_by (λ y. count_by (λ x. dot i y x) (count_from 0 width)) (count_from 0 rows)
unfolding ink_dots
plane-counts p h width rows inks dot i ink has e =
    let row : ℕ → ℕ → ℕ = λ w y. count_by (λ x. dot i y x) (count_from 0 w) in
    let itself : same_ink ink ink ≡ true = eq-eqb (ink_place ink) (ink_place ink) refl in
    wanted-total p h (λ d. same_ink ink d.ink)
    ∙ only p.inks i ink (ink_dots h ink) e
    (λ other apart. no-total (same_ink ink other) h.height h.width (λ y x. cond (h.dot other y x) 1 0) apart)
    ∙ ap (λ b. total (λ y x. b) h.height h.width (λ y x. cond (h.dot ink y x) 1 0)) itself
    ∙ sum-same (λ y. count_by (λ x. h.dot ink y x) (count_from 0 h.width)) (row h.width) (count_from 0 h.height)
    (each-from (λ y. count_by (λ x. h.dot ink y x) (count_from 0 h.width) ≡ row h.width y) 0 h.height (λ y first_y last_y.
    sum-same (λ x. cond (h.dot ink y x) 1 0) (λ x. cond (dot i y x) 1 0) (count_from 0 h.width)
    (each-from (λ x. cond (h.dot ink y x) 1 0 ≡ cond (dot i y x) 1 0) 0 h.width (λ x first_x last_x.
    let one_if : Bool → ℕ = λ b. cond b 1 0 in ap one_if (sym (has.dots i y x ink e (omega arith) (omega arith)))))))
    ∙ ap (λ w. sum_by (row w) (count_from 0 h.height)) (sym has.width_is)
    ∙ ap (λ n. sum_by (row width) (count_from 0 n)) (sym has.rows_is)

-- An ink that is not of the set has no dot.
pub other-counts : (p : Printer) (h : Halftone) (ink : Ink) → list_any (same_ink ink) (inks_of p.inks) ≡ false
    → count_by (λ (d : Dot). same_ink ink d.ink) (dots_wanted p h) ≡ 0
unfolding ink_dots
other-counts p h ink e =
    wanted-total p h (λ d. same_ink ink d.ink)
    ∙ without (inks_of p.inks) ink (ink_dots h ink) e
    (λ other apart. no-total (same_ink ink other) h.height h.width (λ y x. cond (h.dot other y x) 1 0) apart)
