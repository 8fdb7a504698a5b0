-- The rows of a pass are whole, and on the window.
use Rattle.std.proofs.Common.{◌≡◌, ℕ, zero, suc, ◌+◌, ◌*◌, ◌<◌, Bool, true, false, List, []}
use Rattle.std.proofs.Common.{◌∷◌, length, map, replicate, Option, None, Some, refl, sym, ◌∙◌, ap, arith}
use Rattle.std.specs.Prelude.{slice_index_or}
use Rattle.std.specs.List.{list_any}
use Rattle.std.proofs.lemmas.List.{length-map, length-replicate}
use Rattle.printer_definitions.specs.declared.inks.Ink.{Ink}
use Rattle.printer_definitions.specs.Printer.{Printer, head_rows}
use Rattle.base_definitions.specs.Packed.{at}
use Rattle.page_definitions.specs.Dots.{Halftone}
use Rattle.page_definitions.specs.PageBytes.{fired_row, pass_rows}
use Rattle.page_definitions.specs.Strokes.{IsOnWindow, IsWhole}
use Rattle.base_definitions.specs.Counting.{count_from}
use Rattle.weave_definitions.specs.Weave.{nozzle_row}
use Rattle.weave_definitions.proofs.Rows.{stands_on}
use Rattle.page_laws.proofs.Fired.{AllWide}

-- ---- lists of numbers

-- their number
pub count_from-len : (n many : ℕ) → length (count_from n many) ≡ many
count_from-len n zero = refl
count_from-len n (suc many) = ap suc (count_from-len (n + 1) many)

-- the dots of counted places
pub at-counted : (on : ℕ → Bool) (n many x : ℕ) → x < many → at (map on (count_from n many)) x ≡ on (n + x)
at-counted on n zero x low = absurd (omega arith)
at-counted on n (suc many) zero low = ap on (let same : n ≡ n + 0 = omega arith in same)
at-counted on n (suc many) (suc x) low =
    at-counted on (n + 1) many x (omega arith) ∙ ap on (let same : n + 1 + x ≡ n + suc x = omega arith in same)

-- a blank row has no dot
pub no-dot : (n x : ℕ) → at (replicate n false) x ≡ false
no-dot zero x = refl
no-dot (suc n) zero = refl
no-dot (suc n) (suc x) = no-dot n x

-- the test finds a blank row blank
pub blank : (n : ℕ) → list_any (λ on. on) (replicate n false) ≡ false
blank zero = refl
blank (suc n) = blank n

-- ---- the rows of a pass

-- a row that is fired is as wide as the window
pub fired_row-len : (h : Halftone) (ink : Ink) (row : Option ℕ) → length (fired_row h ink row) ≡ h.width
fired_row-len h ink None = length-replicate {A = Bool} h.width false
fired_row-len h ink (Some y) = length-map (count_from 0 h.width) (h.dot ink y) ∙ count_from-len 0 h.width

-- the same for the rows of nozzles
all-wide : (h : Halftone) (ink : Ink) (row : ℕ → Option ℕ) (is : List ℕ) → AllWide h.width (map (λ i. fired_row h ink (row i)) is)
all-wide h ink row [] = tt
all-wide h ink row (i ∷ is) = (fired_row-len h ink (row i), all-wide h ink row is)

-- one row for each nozzle, as wide as the window
pub pass-whole : (p : Printer) (h : Halftone) (t : ℕ) (ink : Ink) → IsWhole p.nozzles h.width (pass_rows p h t ink)
pass-whole p h t ink =
    let row : ℕ → Option ℕ = λ i. nozzle_row p.nozzles p.pitch h.height t i in
    record {
      many = length-map (count_from 0 p.nozzles) (λ i. fired_row h ink (row i)) ∙ count_from-len 0 p.nozzles;
      wide = all-wide h ink row (count_from 0 p.nozzles);
    }

-- a nozzle that fires a dot is on a row of the window
over : (h : Halftone) (ink : Ink) (row : ℕ → Option ℕ) (n many i : ℕ)
    → list_any (λ on. on) (slice_index_or (map (λ i. fired_row h ink (row i)) (count_from n many)) i []) ≡ true
    → (y : ℕ) × (row (n + i) ≡ Some y)
over h ink row n zero i e = absurd (let no : ⊥ = cc in no)
over h ink row n (suc many) zero e = by_row (row n) refl e
  where
    by_row : (r : Option ℕ) → row n ≡ r → list_any (λ on. on) (fired_row h ink r) ≡ true → (y : ℕ) × (row (n + 0) ≡ Some y)
    by_row None f e = absurd (let off : false ≡ true = sym (blank h.width) ∙ e in let no : ⊥ = cc in no)
    by_row (Some y) f e = (y, ap row (let same : n + 0 ≡ n = omega arith in same) ∙ f)
over h ink row n (suc many) (suc i) e =
    let there = over h ink row (n + 1) many i e in (there.0, ap row (let same : n + suc i ≡ n + 1 + i = omega arith in same) ∙ there.1)

-- a pass fires only on the window
pub pass-on_window : (p : Printer) (h : Halftone) (t : ℕ) (ink : Ink)
    → IsOnWindow p.pitch (head_rows p) h.height (t * p.nozzles) (pass_rows p h t ink)
pass-on_window p h t ink = record {
  row = λ i e.
      let there = over h ink (nozzle_row p.nozzles p.pitch h.height t) 0 p.nozzles i e in
      let same : 0 + i ≡ i = omega arith in
      let is = stands_on p.nozzles p.pitch h.height t i there.0 (ap (nozzle_row p.nozzles p.pitch h.height t) (sym same) ∙ there.1) in
      (omega (arith, is.sum), omega (arith, is.sum, is.low));
}
