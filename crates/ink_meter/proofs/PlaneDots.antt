-- The dots of planes, ink by ink.
use Rattle.std.proofs.Common.{◌≡◌, ℕ, ◌*◌, ◌^◌, ◌<◌, ◌≤◌, Bool, false, Some, slice_get, get_or, All}
use Rattle.std.proofs.Common.{arith, subst, refl, ap, sym, ◌∙◌, sum_by, count_by}
use Rattle.std.specs.List.{list_any}
use Rattle.std.proofs.lemmas.List.Elements.{All-from_get_or}
use Rattle.std.proofs.lemmas.List.Sums.{count_by-le-length, sum_by-le}
use Rattle.page_definitions.specs.Dots.{Halftone, HasDots, dots_wanted}
use Rattle.page_laws.proofs.Passes.{count_from-len}
use Rattle.page_laws.proofs.Planes.{other-counts, plane-counts}
use Rattle.ink_meter.specs.Accounts.{all_inks}
use Rattle.ink_meter.specs.Counts.{dots_of, halftone_dots}
use Rattle.printer_definitions.specs.declared.inks.Ink.{Ink}
use Rattle.printer_definitions.specs.declared.inks.Ink.TheVariants.{Black, Cyan, Magenta, Yellow}
use Rattle.printer_definitions.specs.declared.inks.InkSet.{InkSet}
use Rattle.printer_definitions.specs.declared.inks.InkSet.TheVariants.{K, Cmy, Cmyk}
use Rattle.printer_definitions.specs.Inks.{inks_of, same_ink}
use Rattle.printer_definitions.specs.Printer.{Printer}
use Rattle.printer_definitions.specs.declared.inks.InkCounts.{InkCounts}
use Rattle.base_definitions.specs.Counting.{count_from}
use Rattle.base_definitions.specs.Limits.{most_columns}

-- the dots of a plane in a table of dots
abbrev pub plane : (ℕ → ℕ → ℕ → Bool) → ℕ → ℕ → ℕ → ℕ
plane dot width rows i = sum_by (λ y. count_by (λ x. dot i y x) (count_from 0 width)) (count_from 0 rows)

-- they are no more than so many rows of the most columns have
pub plane-most : (dot : ℕ → ℕ → ℕ → Bool) (width rows i : ℕ) → width ≤ most_columns → plane dot width rows i ≤ rows * most_columns
plane-most dot width rows i narrow =
    let row : ℕ → ℕ = λ y. count_by (λ x. dot i y x) (count_from 0 width) in
    let each : All (λ y. row y ≤ most_columns) (count_from 0 rows) =
    All-from_get_or (λ y. row y ≤ most_columns) (count_from 0 rows) 0
    (λ n h. omega (
      arith,
      narrow,
      count_by-le-length
          (λ x. dot i (get_or (count_from 0 rows) n 0) x) (count_from 0 width),
      count_from-len 0 width,
    )) in
    subst (λ n. sum_by row (count_from 0 rows) ≤ n * most_columns) (count_from-len 0 rows) (sum_by-le row most_columns (count_from 0 rows) each)

-- the ink at a place of the set has the dots of the plane at that place
ink_here : (p : Printer) (h : Halftone) (width rows inks : ℕ) (dot : ℕ
    → ℕ → ℕ → Bool) (set : InkSet) (i : ℕ) (ink : Ink) (n : ℕ) → HasDots p h width rows inks dot
    → p.inks ≡ set → slice_get (inks_of set) i ≡ Some ink → n ≡ plane dot width rows i → n ≡ dots_of (dots_wanted p h) ink
ink_here p h width rows inks dot set i ink n has is here e =
    e ∙ sym (plane-counts p h width rows inks dot i ink has (ap (λ s. slice_get (inks_of s) i) is ∙ here))

ink_absent : (p : Printer) (h : Halftone) (set : InkSet) (ink : Ink)
    → p.inks ≡ set → list_any (same_ink ink) (inks_of set) ≡ false → 0 ≡ dots_of (dots_wanted p h) ink
ink_absent p h set ink is none = sym (other-counts p h ink (ap (λ s. list_any (same_ink ink) (inks_of s)) is ∙ none))

same_counts : (k c m y : ℕ) (n : InkCounts)
    → k ≡ n.k → c ≡ n.c → m ≡ n.m → y ≡ n.y → ◌≡◌ {A = InkCounts} (record { k = k; c = c; m = m; y = y }) n
same_counts k c m y n a b d e = rw (a, b, d, e) refl

pub black_dots : (p : Printer) (h : Halftone) (width rows inks : ℕ) (dot : ℕ → ℕ → ℕ → Bool) (k : ℕ)
    → HasDots p h width rows inks dot → p.inks ≡ K
    → k ≡ plane dot width rows 0 → ◌≡◌ {A = InkCounts} (record { k = k; c = 0; m = 0; y = 0 }) (halftone_dots p h)
black_dots p h width rows inks dot k has is e =
    same_counts k 0 0 0 (halftone_dots p h) (ink_here p h width rows inks dot K 0 Black k has is refl e)
    (ink_absent p h K Cyan is refl) (ink_absent p h K Magenta is refl) (ink_absent p h K Yellow is refl)

pub colour_dots : (p : Printer) (h : Halftone) (width rows inks : ℕ) (dot : ℕ → ℕ → ℕ → Bool) (c m y : ℕ)
    → HasDots p h width rows inks dot → p.inks ≡ Cmy
    → c ≡ plane dot width rows 0 → m ≡ plane dot width rows 1 → y ≡ plane dot width rows 2
    → ◌≡◌ {A = InkCounts} (record { k = 0; c = c; m = m; y = y }) (halftone_dots p h)
colour_dots p h width rows inks dot c m y has is cyan magenta yellow =
    same_counts 0 c m y (halftone_dots p h) (ink_absent p h Cmy Black is refl)
    (ink_here p h width rows inks dot Cmy 0 Cyan c has is refl cyan) (ink_here p h width rows inks dot Cmy 1 Magenta m has is refl magenta)
    (ink_here p h width rows inks dot Cmy 2 Yellow y has is refl yellow)

pub four_dots : (p : Printer) (h : Halftone) (width rows inks : ℕ) (dot : ℕ → ℕ → ℕ → Bool) (k c m y : ℕ)
    → HasDots p h width rows inks dot → p.inks ≡ Cmyk
    → k ≡ plane dot width rows 0 → c ≡ plane dot width rows 1 → m ≡ plane dot width rows 2 → y ≡ plane dot width rows 3
    → ◌≡◌ {A = InkCounts} (record { k = k; c = c; m = m; y = y }) (halftone_dots p h)
four_dots p h width rows inks dot k c m y has is black cyan magenta yellow =
    same_counts k c m y (halftone_dots p h) (ink_here p h width rows inks dot Cmyk 0 Black k has is refl black)
    (ink_here p h width rows inks dot Cmyk 1 Cyan c has is refl cyan)
    (ink_here p h width rows inks dot Cmyk 2 Magenta m has is refl magenta)
    (ink_here p h width rows inks dot Cmyk 3 Yellow y has is refl yellow)

-- the dots of planes whose rows fit 32 bits fit 64 bits
pub colour-most : (dot : ℕ → ℕ → ℕ → Bool) (width rows : ℕ) {c m y : ℕ} → width ≤ most_columns → rows < 2 ^ 32
    → c ≡ plane dot width rows 0 → m ≡ plane dot width rows 1 → y ≡ plane dot width rows 2
    → all_inks (record { k = 0; c = c; m = m; y = y }) < 2 ^ 64
colour-most dot width rows narrow few cyan magenta yellow =
    omega (
      arith,
      plane-most dot width rows 0 narrow,
      plane-most dot width rows 1 narrow,
      plane-most dot width rows 2 narrow,
    )

pub four-most : (dot : ℕ → ℕ → ℕ → Bool) (width rows : ℕ) {k c m y : ℕ} → width ≤ most_columns → rows < 2 ^ 32
    → k ≡ plane dot width rows 0 → c ≡ plane dot width rows 1 → m ≡ plane dot width rows 2 → y ≡ plane dot width rows 3
    → all_inks (record { k = k; c = c; m = m; y = y }) < 2 ^ 64
four-most dot width rows narrow few black cyan magenta yellow =
    omega (
      arith,
      plane-most dot width rows 0 narrow,
      plane-most dot width rows 1 narrow,
      plane-most dot width rows 2 narrow,
      plane-most dot width rows 3 narrow,
    )
