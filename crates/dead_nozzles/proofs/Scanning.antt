-- The strokes of a head as its starts are gone through from the top.
use Rattle.std.proofs.Common.{◌≡◌, ◌≢◌, ℕ, zero, suc, ◌+◌, ◌-◌, ◌*◌, ◌/◌, ◌<◌, ◌≤◌, true, false, cond, not, ◌&&◌, ◌||◌, ◌==◌, inl, inr, ◌⊎◌}
use Rattle.std.proofs.Common.{List, [], ◌∷◌, ◌++◌, length, map, Option, None, Some, refl, sym, ◌∙◌, ap, arith, append_assoc}
use Rattle.std.proofs.Math.Nat.{div-mul-le_self, mul-le-mul_right}
use Rattle.std.proofs.lemmas.Bool.{cases_eq, cases_lt, cases_order, eqb-true, le-leb, lt-leb}
use Rattle.std.proofs.lemmas.List.{map-append}
use Rattle.std.proofs.lemmas.Nat.{le-div}
use Rattle.std.specs.List.{AllByRecursion, filter}
use Rattle.base_definitions.specs.Counting.{count_from}
use Rattle.weave_definitions.specs.Weave.{pass_count}
use Rattle.dead_nozzles.specs.Dead.{has}
use Rattle.dead_nozzles.specs.Plans.{Owns, is_free, is_of, owner}
use Rattle.dead_nozzles.specs.Strokes.{Head, HeadStroke, all_strokes, head_span, insert, inserted, made_up}
use Rattle.dead_nozzles.specs.Strokes.{row_under, stroke_at}
use Rattle.dead_nozzles.proofs.Lists.{all-append, all-map, both-true, has-filter, has-outside}
use Rattle.dead_nozzles.proofs.Firing.{under}
use Rattle.dead_nozzles.proofs.MakeUp.{Maker, reach}
use Rattle.dead_nozzles.proofs.RowsOf.{stroke-row, wanted_row}
use Rattle.dead_nozzles.proofs.Starts.{StartsAt, made-starts}
use Rattle.dead_nozzles.proofs.Taking.{IsPass, OfPasses}

-- ---- strokes among others

-- a stroke that starts no lower than the others is the first
pub insert-first : (s : HeadStroke) (ts : List HeadStroke) → AllByRecursion (λ (t : HeadStroke). s.start ≤ t.start) ts → insert s ts ≡ s ∷ ts
insert-first s [] all = refl
insert-first s (t ∷ ts) all = ap (λ b. cond b (s ∷ t ∷ ts) (t ∷ insert s ts)) (le-leb s.start t.start all.0)

-- a stroke that starts above the others stays the first
inserted-after : (t : HeadStroke) (ss ts : List HeadStroke) → AllByRecursion (λ (s : HeadStroke). t.start < s.start) ss → inserted ss (t ∷ ts) ≡ t ∷ inserted ss ts
inserted-after t [] ts all = refl
inserted-after t (s ∷ ss) ts all = grind (arith, lt-leb, inserted-after t ss ts all.1)

-- ---- the rows that have no owner yet

-- the passes from one on
abbrev pub passes_from : Head → ℕ → ℕ → List HeadStroke
passes_from h first many = map (λ t. stroke_at h (λ row. true) (t * h.nozzles)) (count_from first many)

-- the rows from one on without an owner
abbrev pub free_from : Head → List (Option ℕ) → ℕ → List ℕ
free_from h owners row = filter (λ y. is_free (owner owners y)) (count_from row (h.height - row))

-- the first row that a nozzle can be over in a stroke that starts here or below
abbrev pub row_at : Head → ℕ → ℕ → ℕ
row_at h j start = start + j * h.pitch - head_span h

free-drop : (h : Head) (owners : List (Option ℕ)) (row : ℕ) → row < h.height → is_free (owner owners row) ≡ false
    → free_from h owners row ≡ free_from h owners (row + 1)
free-drop h owners row low taken = grind (arith, free_from)

pub free-past : (h : Head) (owners : List (Option ℕ)) (row : ℕ) → h.height ≤ row → free_from h owners row ≡ []
free-past h owners row past =
    let none : h.height - row ≡ 0 = omega arith in ap (λ n. filter (λ y. is_free (owner owners y)) (count_from row n)) none

-- where the row under the nozzle has an owner, the next start leaves the same rows
free-next : (h : Head) (owners : List (Option ℕ)) (j start : ℕ) → ((row : ℕ) → row_under h start j ≡ Some row → is_free (owner owners row) ≡ false)
    → free_from h owners (row_at h j start) ≡ free_from h owners (row_at h j (start + 1))
free-next h owners j start taken = grind (arith, cases_lt, free-drop, free-past, free_from, row_at, under)

-- ---- where the head is in its strokes

-- The strokes that start above a row are done; the others are what the definition makes of the rows without an owner,
-- and of the passes that are left.
pub record Scan (h : Head) (j start : ℕ) (owners : List (Option ℕ)) (starts : List ℕ) : Type 0 where
  pub done : List HeadStroke
  pub next : ℕ
  pub left : ℕ
  pub most : ℕ
  pub rows : length owners ≡ h.height
  pub passes : next + left ≡ pass_count h.nozzles h.pitch h.height
  pub above : start ≤ next * h.nozzles
  pub near : next * h.nozzles < start + h.nozzles
  pub all : all_strokes h ≡ done ++ inserted (made_up h j most (free_from h owners (row_at h j start))) (passes_from h next left)
  pub enough : length (free_from h owners (row_at h j start)) ≤ most
  pub starts_are : starts ≡ map (λ (s : HeadStroke). s.start) done
  pub own : AllByRecursion (Owns h owners) done
  pub higher : AllByRecursion (λ (s : HeadStroke). s.start < start) done
  pub owned : (row : ℕ) → row < row_at h j start → row < h.height → is_free (owner owners row) ≡ false
  pub of_passes : OfPasses h owners
  pub before : (row k : ℕ) → row < h.height → owner owners row ≡ Some k → (k < start) ⊎ IsPass h k

-- ---- numbers

-- one multiple lies within a round
pub same-multiple : (n a b : ℕ) → 1 ≤ n → a * n ≤ b * n → b * n < a * n + n → a ≡ b
same-multiple n a b some le near = grind (arith, cases_order, mul-le-mul_right)

-- a pass that starts above the end of the window is one of the passes
pub pass-counts : (h : Head) (t : ℕ) → 1 ≤ h.nozzles → t * h.nozzles < head_span h + h.height → t < pass_count h.nozzles h.pitch h.height
pass-counts h t some low = grind (arith, le-div)

-- and the passes start there
pub pass-begins : (h : Head) (t : ℕ) → 1 ≤ h.nozzles → t < pass_count h.nozzles h.pitch h.height → t * h.nozzles < head_span h + h.height
pass-begins h t some less = grind (arith, div-mul-le_self, mul-le-mul_right)

-- ---- what is known of owners

of-not-free : (start : ℕ) (o : Option ℕ) → is_of start o ≡ true → is_free o ≡ false
of-not-free start None e = cc
of-not-free start (Some k) e = refl

pub free-not-of : (start : ℕ) (o : Option ℕ) → is_free o ≡ true → is_of start o ≡ false
free-not-of start None e = refl
free-not-of start (Some k) e = cc

-- a row without an owner, from a row on
pub record IsFreeRow (h : Head) (owners : List (Option ℕ)) (from y : ℕ) : Type 0 where
  pub after : from ≤ y
  pub low : y < h.height
  pub free : is_free (owner owners y) ≡ true

counted-after : (n many y : ℕ) → has (count_from n many) y ≡ true → n ≤ y
counted-after n zero y e = cc
counted-after n (suc many) y e = grind (arith, eqb-true, counted-after (n + 1) many y)

pub free-row : (h : Head) (owners : List (Option ℕ)) (from y : ℕ) → has (free_from h owners from) y ≡ true → IsFreeRow h owners from y
free-row h owners from y e = grind (arith, both-true, counted-after, has-filter, has-outside)

-- rows down to the next start have owners
owned-next : (h : Head) (owners : List (Option ℕ)) (j start : ℕ) → ((row : ℕ) → row_under h start j ≡ Some row → is_free (owner owners row) ≡ false)
    → ((row : ℕ) → row < row_at h j start → row < h.height → is_free (owner owners row) ≡ false)
    → (row : ℕ) → row < row_at h j (start + 1) → row < h.height → is_free (owner owners row) ≡ false
owned-next h owners j start taken owned row less low = grind (arith, cases_lt, row_at, under)

-- ---- a pass begins

-- the maker is over a row that has an owner
pass-taken : (h : Head) (owners : List (Option ℕ)) (j t row : ℕ) → Maker h j → OfPasses h owners
    → row_under h (t * h.nozzles) j ≡ Some row → is_free (owner owners row) ≡ false
pass-taken h owners j t row m of e =
    of-not-free (t * h.nozzles) (owner owners row) (of t j row m.low e ∙ ap not m.live)

-- a pass owns the rows of its live nozzles
pass-owns : (h : Head) (owners : List (Option ℕ)) (t : ℕ) → OfPasses h owners → Owns h owners (stroke_at h (λ row. true) (t * h.nozzles))
pass-owns h owners t of i few = grind (arith, stroke-row, wanted_row)

pub map-more : (xs : List HeadStroke) (s : HeadStroke) (start : ℕ) (starts : List ℕ) → starts ≡ map (λ (s : HeadStroke). s.start) xs → s.start ≡ start
    → starts ++ start ∷ [] ≡ map (λ (s : HeadStroke). s.start) (xs ++ s ∷ [])
map-more xs s start starts e same = grind (arith, map-append)

pub scan-pass : (h : Head) (j start : ℕ) (owners : List (Option ℕ)) (starts : List ℕ) (t : ℕ) → Maker h j → 1 ≤ h.nozzles
    → start < head_span h + h.height → start ≡ t * h.nozzles → Scan h j start owners starts
    → Scan h j (start + 1) owners (starts ++ start ∷ [])
scan-pass h j start owners starts t m some low e s = record {
  done = s.done ++ first ∷ [];
  next = s.next + 1;
  left = s.left - 1;
  most = s.most;
  rows = s.rows;
  passes = omega (arith, more, s.passes);
  above = omega (arith, begins, some, ap (λ n. n * h.nozzles) next-is);
  near = omega (arith, begins, some);
  all = s.all
      ∙ ap (λ n. s.done ++ inserted (made_up h j s.most rows) (passes_from h s.next n)) more
      ∙ ap (λ ss. s.done ++ ss) (inserted-after first (made_up h j s.most rows) (passes_from h (s.next + 1) (s.left - 1)) later)
      ∙ sym (append_assoc s.done (first ∷ []) (inserted (made_up h j s.most rows) (passes_from h (s.next + 1) (s.left - 1))))
      ∙ ap (λ ys. (s.done ++ first ∷ []) ++ inserted (made_up h j s.most ys) (passes_from h (s.next + 1) (s.left - 1))) same_rows;
  enough = omega (arith, s.enough, ap length same_rows);
  starts_are = map-more s.done first start starts s.starts_are (sym begins);
  own = all-append (Owns h owners) s.done (first ∷ []) s.own (pass-owns h owners s.next s.of_passes, tt);
  higher = all-append (λ (d : HeadStroke). d.start < start + 1) s.done (first ∷ [])
      (all-map (λ (d : HeadStroke). d.start < start) (λ (d : HeadStroke). d.start < start + 1) s.done (λ d less. omega (arith, less)) s.higher)
      (omega (arith, begins), tt);
  owned = owned-next h owners j start taken s.owned;
  of_passes = s.of_passes;
  before = λ row k low e. elim (s.before row k low e) [ inl less ↦ inl (omega (arith, less)) | inr is ↦ inr is ];
}
  where
    rows : List ℕ
    rows = free_from h owners (row_at h j start)

    next-is : t ≡ s.next
    next-is = same-multiple h.nozzles t s.next some (omega (arith, e, s.above)) (omega (arith, e, s.near))

    begins : start ≡ s.next * h.nozzles
    begins = e ∙ ap (λ n. n * h.nozzles) next-is

    more : s.left ≡ suc (s.left - 1)
    more = omega (arith, s.passes, pass-counts h s.next some (omega (arith, begins, low)))

    first : HeadStroke
    first = stroke_at h (λ row. true) (s.next * h.nozzles)

    taken : (row : ℕ) → row_under h start j ≡ Some row → is_free (owner owners row) ≡ false
    taken row u = pass-taken h owners j s.next row m s.of_passes (ap (λ n. row_under h n j) (sym begins) ∙ u)

    same_rows : free_from h owners (row_at h j start) ≡ free_from h owners (row_at h j (start + 1))
    same_rows = free-next h owners j start taken

    below : (k : HeadStroke) → StartsAt h j rows k → first.start < k.start
    below k at =
        let is : IsFreeRow h owners (row_at h j start) at.row = free-row h owners (row_at h j start) at.row at.is in
        elim (cases_eq (start + j * h.pitch) (head_span h + at.row)) [
          | inl here ↦ absurd (let free = sym is.free ∙ taken at.row (under h start j at.row (record { place = here; low = is.low })) in cc)
          | inr apart ↦ omega (arith, apart, is.after, begins, at.start, reach h j m)
        ]

    later : AllByRecursion (λ (k : HeadStroke). first.start < k.start) (made_up h j s.most rows)
    later = all-map (StartsAt h j rows) (λ (k : HeadStroke). first.start < k.start) (made_up h j s.most rows) below (made-starts h j s.most rows)

-- ---- nothing begins

pub scan-nothing : (h : Head) (j start : ℕ) (owners : List (Option ℕ)) (starts : List ℕ) → ((t : ℕ) → start ≢ t * h.nozzles)
    → ((row : ℕ) → row_under h start j ≡ Some row → is_free (owner owners row) ≡ false) → Scan h j start owners starts
    → Scan h j (start + 1) owners starts
scan-nothing h j start owners starts apart taken s =
    let same_rows : free_from h owners (row_at h j start) ≡ free_from h owners (row_at h j (start + 1)) = free-next h owners j start taken in
    record {
      done = s.done;
      next = s.next;
      left = s.left;
      most = s.most;
      rows = s.rows;
      passes = s.passes;
      above = omega (arith, s.above, apart s.next);
      near = omega (arith, s.near);
      all = s.all ∙ ap (λ ys. s.done ++ inserted (made_up h j s.most ys) (passes_from h s.next s.left)) same_rows;
      enough = omega (arith, s.enough, ap length same_rows);
      starts_are = s.starts_are;
      own = s.own;
      higher = all-map (λ (d : HeadStroke). d.start < start) (λ (d : HeadStroke). d.start < start + 1) s.done (λ d less. omega (arith, less)) s.higher;
      owned = owned-next h owners j start taken s.owned;
      of_passes = s.of_passes;
      before = λ row k low e. elim (s.before row k low e) [ inl less ↦ inl (omega (arith, less)) | inr is ↦ inr is ];
    }
