-- The starts of all strokes: where they begin, how they step, and where they end; and how many strokes there are.
use Rattle.std.proofs.Common.{◌≡◌, ℕ, zero, suc, ◌+◌, ◌-◌, ◌*◌, ◌^◌, ◌<◌, ◌≤◌, Bool, true, false, cond, ◌&&◌, inr}
use Rattle.std.proofs.Common.{List, [], ◌∷◌, ◌++◌, length, map, Option, Some, refl, sym, ◌∙◌, ap, subst, arith, append-nil}
use Rattle.std.proofs.Math.Nat.{div-le_self, mul-le-mul}
use Rattle.std.proofs.lemmas.Bool.{cases_lt}
use Rattle.std.proofs.lemmas.List.{get_or_past, length-map}
use Rattle.std.proofs.lemmas.List.Elements.{All-from_recursion}
use Rattle.std.proofs.lemmas.List.Sums.{count_by-le-length, length-filter}
use Rattle.std.specs.List.{AllByRecursion, filter}
use Rattle.base_definitions.specs.Counting.{count_from}
use Rattle.base_definitions.specs.Limits.{most_rows}
use Rattle.weave_definitions.specs.Weave.{pass_count}
use Rattle.dead_nozzles.specs.Dead.{least_live}
use Rattle.dead_nozzles.specs.Plans.{ArePassOwners, Begins, IsStrokePlan, IsWorn, Owns, is_free, owner, shot_row, stroke_in}
use Rattle.dead_nozzles.specs.Plans.Begins.{a_make_up, a_pass, nothing}
use Rattle.dead_nozzles.specs.Strokes.{Head, IsHead, StartsRise, HeadStroke, all_strokes, head_span, insert, inserted, left_by, made_up, made_up_by, make_up_stroke}
use Rattle.dead_nozzles.specs.Strokes.{make_up_strokes, missing, regular_strokes, stroke_at}
use Rattle.dead_nozzles.proofs.Firing.{Over, over}
use Rattle.dead_nozzles.proofs.Lists.{all-has, all-map, all-mapped}
use Rattle.dead_nozzles.proofs.MakeUp.{Maker, missing-low, reach}
use Rattle.dead_nozzles.proofs.Making.{scan-made}
use Rattle.dead_nozzles.proofs.RowsOf.{stroke-row, wanted_row}
use Rattle.dead_nozzles.proofs.Scanning.{Scan, free-past, free_from, pass-begins, passes_from, row_at, scan-nothing, scan-pass}
use Rattle.dead_nozzles.proofs.Starts.{StartsAt, all-inserted, made-starts}
use Rattle.dead_nozzles.proofs.Taking.{missing-free, pass-owner, passes-own}

-- ---- the first start

pub scan-begin : (h : Head) (j : ℕ) (owners : List (Option ℕ)) → IsHead h → Maker h j → least_live h.nozzles h.dead ≡ Some j
    → ArePassOwners h owners → Scan h j 0 owners []
scan-begin h j owners is m e are =
    let at : row_at h j 0 ≡ 0 = omega (arith, reach h j m) in
    let rows : missing h ≡ free_from h owners (row_at h j 0) = missing-free h owners is are
    ∙ ap (λ n. filter (λ y. is_free (owner owners y)) (count_from 0 n)) (let same : h.height ≡ h.height - 0 = omega arith in same)
    ∙ sym (ap (free_from h owners) at) in
    record {
      done = [];
      next = 0;
      left = pass_count h.nozzles h.pitch h.height;
      most = length (missing h);
      rows = are.rows;
      passes = omega arith;
      above = omega arith;
      near = omega (arith, is.some_nozzles);
      all = ap (λ o. inserted (made_up_by h o) (regular_strokes h)) e
          ∙ ap (λ ys. inserted (made_up h j (length (missing h)) ys) (regular_strokes h)) rows;
      enough = omega (arith, ap length rows);
      starts_are = refl;
      own = tt;
      higher = tt;
      owned = λ row less low. absurd (omega (arith, less, at));
      of_passes = passes-own h owners is are;
      before = λ row k low its. inr (pass-owner h owners are row k low its);
    }

-- ---- the next one

pub scan-step : (h : Head) (j start : ℕ) (old new : List (Option ℕ)) (starts : List ℕ) (begins : Bool) → Maker h j → 1 ≤ h.nozzles
    → start < head_span h + h.height → Begins h j start old new begins → Scan h j start old starts
    → Scan h j (start + 1) new (cond begins (starts ++ start ∷ []) starts)
scan-step h j start old new starts true m some low (a_pass t e same) s =
    subst (λ owners. Scan h j (start + 1) owners (starts ++ start ∷ [])) (sym same) (scan-pass h j start old starts t m some low e s)
scan-step h j start old new starts true m some low (a_make_up row u free takes) s =
    scan-made h j start row old new starts (record { maker = m; under = u; none = free; of_passes = s.of_passes; takes = takes }) s
scan-step h j start old new starts false m some low (nothing apart taken same) s =
    subst (λ owners. Scan h j (start + 1) owners starts) (sym same) (scan-nothing h j start old starts apart taken s)

-- ---- past the last one

nothing-left : (h : Head) (j most : ℕ) → made_up h j most [] ≡ []
nothing-left h j zero = refl
nothing-left h j (suc most) = refl

pub scan-end : (h : Head) (j start : ℕ) (owners : List (Option ℕ)) (starts : List ℕ) → IsHead h → IsWorn h.nozzles h.pitch h.height
    → head_span h + h.height ≤ start → Scan h j start owners starts → IsStrokePlan h starts owners
scan-end h j start owners starts is worn past s = record {
  head = is;
  worn = worn;
  starts_are = s.starts_are ∙ ap (map (λ (d : HeadStroke). d.start)) (sym all);
  rows = s.rows;
  own = subst (AllByRecursion (Owns h owners)) (sym all) s.own;
}
  where
    none : s.left ≡ 0
    none = by_left s.left refl
      where
        by_left : (n : ℕ) → s.left ≡ n → n ≡ 0
        by_left zero e = refl
        by_left (suc n) e =
            absurd (omega (arith, s.above, past, pass-begins h s.next is.some_nozzles (omega (arith, s.passes, e))))

    all : all_strokes h ≡ s.done
    all =
        s.all
        ∙ ap (λ ys. s.done ++ inserted (made_up h j s.most ys) (passes_from h s.next s.left)) (free-past h owners (row_at h j start) (omega (arith, past)))
        ∙ ap (λ ss. s.done ++ inserted ss (passes_from h s.next s.left)) (nothing-left h j s.most)
        ∙ ap (λ n. s.done ++ passes_from h s.next n) none
        ∙ append-nil s.done

-- ---- which strokes they are

-- A stroke in which live nozzles fire the rows under them that are wanted.
pub record IsStrokeAt (h : Head) (s : HeadStroke) : Type 0 where
  pub wanted : ℕ → Bool
  pub start : ℕ
  pub is : s ≡ stroke_at h wanted start

made-are : (h : Head) (j most : ℕ) (rows : List ℕ) → AllByRecursion (IsStrokeAt h) (made_up h j most rows)
made-are h j zero rows = tt
made-are h j (suc most) [] = tt
made-are h j (suc most) (row ∷ rows) = grind (arith, made-are h j most (left_by (make_up_stroke h j row (row ∷ rows)).shots (row ∷ rows)))

-- all strokes are
pub all-are : (h : Head) → IsHead h → AllByRecursion (IsStrokeAt h) (all_strokes h)
all-are h is =
    all-inserted (IsStrokeAt h) (make_up_strokes h) (regular_strokes h)
    (subst (λ o. AllByRecursion (IsStrokeAt h) (made_up_by h o)) (sym is.is_live) (made-are h is.live (length (missing h)) (missing h)))
    (all-mapped (IsStrokeAt h) (λ t. stroke_at h (λ row. true) (t * h.nozzles)) 0 (pass_count h.nozzles h.pitch h.height)
    (λ t from below. record { wanted = λ row. true; start = t * h.nozzles; is = refl }))

-- the row of a nozzle is under it
pub row-over : (h : Head) (s : HeadStroke) (i y : ℕ) → i < h.nozzles → IsStrokeAt h s → shot_row s.shots i ≡ Some y → Over h s.start i y
row-over h s i y few shape e = grind (arith, Over, over, stroke-row, wanted_row)

-- ---- how far down, and how many

-- each stroke starts above the end of the window
pub all-low : (h : Head) → IsHead h → AllByRecursion (λ (s : HeadStroke). s.start < head_span h + h.height) (all_strokes h)
all-low h is =
    all-inserted (λ (s : HeadStroke). s.start < head_span h + h.height) (make_up_strokes h) (regular_strokes h)
    (subst (λ o. AllByRecursion (λ (s : HeadStroke). s.start < head_span h + h.height) (made_up_by h o)) (sym is.is_live)
    (all-map (StartsAt h is.live (missing h)) (λ (s : HeadStroke). s.start < head_span h + h.height) (made_up h is.live (length (missing h)) (missing h))
    (λ s at. let low : at.row < h.height = all-has (λ y. y < h.height) (missing h) at.row (missing-low h) at.is in
    omega (arith, low, at.start)) (made-starts h is.live (length (missing h)) (missing h))))
    (all-mapped (λ (s : HeadStroke). s.start < head_span h + h.height) (λ t. stroke_at h (λ row. true) (t * h.nozzles)) 0
    (pass_count h.nozzles h.pitch h.height) (λ t from below. pass-begins h t is.some_nozzles (omega (arith, below))))

insert-len : (s : HeadStroke) (ts : List HeadStroke) → length (insert s ts) ≡ suc (length ts)
insert-len s [] = refl
insert-len s (t ∷ ts) = grind (arith, insert-len s ts)

inserted-len : (ss ts : List HeadStroke) → length (inserted ss ts) ≡ length ss + length ts
inserted-len [] ts = omega arith
inserted-len (s ∷ ss) ts = omega (arith, insert-len s (inserted ss ts), inserted-len ss ts)

made-len : (h : Head) (j most : ℕ) (rows : List ℕ) → length (made_up h j most rows) ≤ most
made-len h j zero rows = omega arith
made-len h j (suc most) [] = omega arith
made-len h j (suc most) (row ∷ rows) = omega (arith, made-len h j most (left_by (make_up_stroke h j row (row ∷ rows)).shots (row ∷ rows)))

count-len : (n many : ℕ) → length (count_from n many) ≡ many
count-len n zero = refl
count-len n (suc many) = ap suc (count-len (n + 1) many)

-- there are no more strokes than passes and missing rows
pub all-few : (h : Head) → IsHead h → length (all_strokes h) ≤ pass_count h.nozzles h.pitch h.height + length (missing h)
all-few h is = grind (arith, count-len, inserted-len, length-map, made-len)

-- no more rows are missing than the window has
pub missing-few : (h : Head) → length (missing h) ≤ h.height
missing-few h = grind (arith, count-len, count_by-le-length, length-filter)

-- 8 bytes for each row and each stroke are less than a megabyte
pub plan-small : (h : Head) → IsHead h → h.nozzles ≤ 255 → h.pitch ≤ 255 → h.height ≤ most_rows
    → 8 * h.height + 8 * length (all_strokes h) ≤ 2 ^ 20
plan-small h is few near low = grind (arith, all-few, div-le_self, missing-few, mul-le-mul, over)

-- ---- the stroke at a place

pub in-low : (h : Head) (place : ℕ) → IsHead h → place < length (all_strokes h) → (stroke_in (all_strokes h) place).start < head_span h + h.height
in-low h place is low =
    All-from_recursion (λ (s : HeadStroke). s.start < head_span h + h.height) (all_strokes h) (all-low h is) place (record { start = 0; shots = [] }) low

-- the row of a nozzle at a place, if it has one, is on the window
pub in-over : (h : Head) (place i y : ℕ) → IsHead h → i < h.nozzles → shot_row (stroke_in (all_strokes h) place).shots i ≡ Some y
    → Over h (stroke_in (all_strokes h) place).start i y
in-over h place i y is few e = grind (arith, All-from_recursion, all-are, cases_lt, get_or_past, row-over)

-- strokes further on start no higher
pub in-rises : (strokes : List HeadStroke) (i j : ℕ) → StartsRise strokes → i ≤ j → j < length strokes → (stroke_in strokes i).start ≤ (stroke_in strokes j).start
in-rises [] i j rises le low = absurd (omega arith)
in-rises (s ∷ strokes) zero zero rises le low = omega arith
in-rises (s ∷ strokes) zero (suc j) rises le low = grind (arith, All-from_recursion)
in-rises (s ∷ strokes) (suc i) zero rises le low = absurd (omega arith)
in-rises (s ∷ strokes) (suc i) (suc j) rises le low = in-rises strokes i j rises.1 (omega (arith, le)) (omega (arith, low))

-- each stroke at its place, one after another
pub map-places : {B : Type 0} (f : HeadStroke → B) (strokes : List HeadStroke) (g : ℕ → HeadStroke) (n : ℕ)
    → ((k : ℕ) → k < length strokes → g (n + k) ≡ stroke_in strokes k) → map f strokes ≡ map (λ k. f (g k)) (count_from n (length strokes))
map-places f [] g n same = refl
map-places f (s ∷ strokes) g n same =
    let first : g n ≡ s = ap g (let here : n ≡ n + 0 = omega arith in here) ∙ same 0 (omega arith) in
    ap (λ t. f t ∷ map f strokes) (sym first)
    ∙ ap (λ ts. f (g n) ∷ ts) (map-places f strokes g (n + 1)
    (λ k low. ap g (let next : n + 1 + k ≡ n + suc k = omega arith in next) ∙ same (suc k) (omega (arith, low))))

-- there are few enough strokes to count
pub all-count : (h : Head) (starts : List ℕ) (owners : List (Option ℕ)) → IsStrokePlan h starts owners → length starts ≤ 96704
all-count h starts owners is = grind (arith, all-few, div-le_self, length-map, missing-few, mul-le-mul)
