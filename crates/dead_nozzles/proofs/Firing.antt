-- How often a stroke and the regular strokes fire a row.
use Rattle.std.proofs.lemmas.Grind.{common_steps}
use Rattle.std.proofs.Common.{◌≡◌, ◌≢◌, ℕ, ◌+◌, ◌-◌, ◌*◌, ◌<◌, ◌≤◌, Bool, true, false, ◌&&◌, ◌||◌, ◌==◌, inl, inr, ◌⊎◌}
use Rattle.std.proofs.Common.{List, [], ◌∷◌, map, Some, refl, sym, ◌∙◌, subst, arith, if◌then◌else◌}
use Rattle.std.proofs.Math.Nat.{mul-le-mul_right}
use Rattle.std.proofs.lemmas.Bool.{cases_eq, not-true, eq-eqb, eqb-true, and_from, cases_lt, le-leb, leb-true, lt-ltb, ltb-true}
use Rattle.std.specs.Int.{IsGcd}
use Rattle.std.specs.List.{count_by, sum_by}
use Rattle.base_definitions.specs.Counting.{count_from}
use Rattle.weave_definitions.specs.Weave.{pass_count}
use Rattle.weave_definitions.proofs.Rounds.{Inverse, inverse}
use Rattle.weave_definitions.proofs.Rows.{Counts, StandsOn, own-counts, pass-low, place-only, row_under as weave_row}
use Rattle.weave_definitions.proofs.Firings.{count-flat}
use Rattle.dead_nozzles.specs.Dead.{has}
use Rattle.dead_nozzles.specs.Strokes.{Head, Shot, HeadStroke, firings_of, head_span, is_fired, regular_strokes, row_under, shot, stroke_at}
use Rattle.dead_nozzles.proofs.Lists.{One, Nowhere, Indicates, both-true, count-cons, sum-map, sum-indicated}

-- how often a row is fired
abbrev pub count : ℕ → List Shot → ℕ
count y shots = count_by (λ (s : Shot). s.row == y) shots

pub fired-none : (y : ℕ) (shots : List Shot) → is_fired shots y ≡ false → count y shots ≡ 0
fired-none y [] e = refl
fired-none y (s ∷ shots) e = grind (arith, count, count-cons, fired-none y shots)

pub fired-some : (y : ℕ) (shots : List Shot) → is_fired shots y ≡ true → 1 ≤ count y shots
fired-some y [] e = cc
fired-some y (s ∷ shots) e = grind (arith, common_steps, count, count-cons, fired-some y shots)

pub is-fired : (y : ℕ) (shots : List Shot) → count y shots ≡ 1 → is_fired shots y ≡ true
is-fired y shots e = grind (arith, fired-none)

pub not-fired : (y : ℕ) (shots : List Shot) → count y shots ≡ 0 → is_fired shots y ≡ false
not-fired y shots e = grind (arith, fired-some)

-- ---- one nozzle in one stroke

-- a nozzle is over a row of the window
pub record Over (h : Head) (start i y : ℕ) : Type 0 where
  pub place : start + i * h.pitch ≡ head_span h + y
  pub low : y < h.height

pub over : (h : Head) (start i y : ℕ) → row_under h start i ≡ Some y → Over h start i y
over h start i y e = grind (arith, leb-true, ltb-true)

pub under : (h : Head) (start i y : ℕ) → Over h start i y → row_under h start i ≡ Some y
under h start i y o = grind (arith, and_from, le-leb, lt-ltb)

-- a live nozzle is over a row that is wanted
pub record Hits (h : Head) (wanted : ℕ → Bool) (start y i : ℕ) : Type 0 where
  pub live : has h.dead i ≡ false
  pub is_wanted : wanted y ≡ true
  pub over : Over h start i y

shot-tells : (h : Head) (wanted : ℕ → Bool) (start y i : ℕ)
    → Indicates (Hits h wanted start y) (λ i. count y (shot h wanted i (row_under h start i))) i
shot-tells h wanted start y i = grind (arith, both-true, count, eq-eqb, eqb-true, not-true, over, under)

-- nozzles that stand over one row are one
pub one-over : (h : Head) (start y : ℕ) → 1 ≤ h.pitch → (k l : ℕ) → Over h start k y → Over h start l y → k ≡ l
one-over h start y near k l a b = grind (arith, cases_eq, cases_lt, mul-le-mul_right)

one-nozzle : (h : Head) (wanted : ℕ → Bool) (start y : ℕ) → 1 ≤ h.pitch → (k l : ℕ) → Hits h wanted start y k → Hits h wanted start y l → k ≡ l
one-nozzle h wanted start y near k l a b = one-over h start y near k l a.over b.over

-- how often a stroke fires a row
pub stroke-tells : (h : Head) (wanted : ℕ → Bool) (start y : ℕ) → 1 ≤ h.pitch
    → One (Hits h wanted start y) (count y (stroke_at h wanted start).shots) 0 h.nozzles
    ⊎ Nowhere (Hits h wanted start y) (count y (stroke_at h wanted start).shots) 0 h.nozzles
stroke-tells h wanted start y near =
    let parts : count y (stroke_at h wanted start).shots ≡ sum_by (λ i. count y (shot h wanted i (row_under h start i))) (count_from 0 h.nozzles) =
    count-flat (λ (s : Shot). s.row == y) (λ i. shot h wanted i (row_under h start i)) (count_from 0 h.nozzles) in
    subst (λ n. One (Hits h wanted start y) n 0 h.nozzles ⊎ Nowhere (Hits h wanted start y) n 0 h.nozzles) (sym parts)
    (sum-indicated (Hits h wanted start y) (λ i. count y (shot h wanted i (row_under h start i))) 0 h.nozzles
    (shot-tells h wanted start y) (one-nozzle h wanted start y near))

-- ---- the regular strokes

-- a live nozzle is over a row in a pass
pub record InPass (h : Head) (y t : ℕ) : Type 0 where
  pub nozzle : ℕ
  pub few : nozzle < h.nozzles
  pub hits : Hits h (λ row. true) (t * h.nozzles) y nozzle

pub stands : (h : Head) (y t i : ℕ) → Over h (t * h.nozzles) i y → StandsOn h.nozzles h.pitch h.height t i y
stands h y t i o = record { sum = o.place; low = o.low }

-- one pass and one nozzle are over a row
pub one-place : (h : Head) (y t i t' i' : ℕ) → 1 ≤ h.nozzles → 1 ≤ h.pitch → IsGcd h.nozzles h.pitch 1 → i < h.nozzles → i' < h.nozzles
    → Over h (t * h.nozzles) i y → Over h (t' * h.nozzles) i' y → (t ≡ t') × (i ≡ i')
one-place h y t i t' i' some near gcd few few' a b =
    let n : ℕ = h.nozzles in
    let found : Inverse h.nozzles h.pitch = inverse h.nozzles h.pitch some near gcd in
    let first : ℕ = (h.nozzles - 1) * h.pitch in
    let counts : Counts n h.pitch n h.pitch found.number first = own-counts n h.pitch some found in
    let one = place-only h.nozzles h.pitch h.height y h.nozzles h.pitch found.number first t i counts few
    (weave_row h.nozzles h.pitch h.height t i y (stands h y t i a)) in
    let other = place-only h.nozzles h.pitch h.height y h.nozzles h.pitch found.number first t' i' counts few'
    (weave_row h.nozzles h.pitch h.height t' i' y (stands h y t' i' b)) in
    (one.0 ∙ sym other.0, one.1 ∙ sym other.1)

pass-tells : (h : Head) (y : ℕ) → 1 ≤ h.pitch → (t : ℕ)
    → Indicates (InPass h y) (λ t. count y (stroke_at h (λ row. true) (t * h.nozzles)).shots) t
pass-tells h y near t =
    elim (stroke-tells h (λ row. true) (t * h.nozzles) y near) [
      | inl one ↦ inl (record { nozzle = one.at; few = omega (arith, one.inside); hits = one.has }, one.once)
      | inr nowhere ↦ inr (λ p. nowhere.none p.nozzle (omega arith) (omega (arith, p.few)) p.hits, nowhere.never)
    ]

-- how often the regular strokes fire a row
pub regular-tells : (h : Head) (y : ℕ) → 1 ≤ h.nozzles → 1 ≤ h.pitch → IsGcd h.nozzles h.pitch 1
    → One (InPass h y) (count y (firings_of (regular_strokes h))) 0 (pass_count h.nozzles h.pitch h.height)
    ⊎ Nowhere (InPass h y) (count y (firings_of (regular_strokes h))) 0 (pass_count h.nozzles h.pitch h.height)
regular-tells h y some near gcd =
    let pass : ℕ → HeadStroke = λ t. stroke_at h (λ row. true) (t * h.nozzles) in
    let many : ℕ = pass_count h.nozzles h.pitch h.height in
    let parts : count y (firings_of (regular_strokes h)) ≡ sum_by (λ t. count y (pass t).shots) (count_from 0 many) =
    count-flat (λ (s : Shot). s.row == y) (λ (s : HeadStroke). s.shots) (map pass (count_from 0 many))
    ∙ sum-map (λ (s : HeadStroke). count y s.shots) pass (count_from 0 many) in
    subst (λ n. One (InPass h y) n 0 (pass_count h.nozzles h.pitch h.height) ⊎ Nowhere (InPass h y) n 0 (pass_count h.nozzles h.pitch h.height)) (sym parts)
    (sum-indicated (InPass h y) (λ t. count y (pass t).shots) 0 many (pass-tells h y near)
    (λ k l a b. (one-place h y k a.nozzle l b.nozzle some near gcd a.few b.few a.hits.over b.hits.over).0))

-- the pass in which a nozzle is over a row is one of those
pub pass-is : (h : Head) (y t i : ℕ) → 1 ≤ h.nozzles → Over h (t * h.nozzles) i y → t < pass_count h.nozzles h.pitch h.height
pass-is h y t i some o = pass-low h.nozzles h.pitch h.height t i y some (stands h y t i o)
