-- Live nozzles fire, and the starts of the strokes rise.
use Rattle.std.proofs.Common.{◌≡◌, ◌≢◌, ℕ, zero, suc, ◌+◌, ◌-◌, ◌*◌, ◌<◌, ◌≤◌, Bool, true, false, not, ◌&&◌, inl, inr}
use Rattle.std.proofs.Common.{List, [], ◌∷◌, length, map, refl, sym, ◌∙◌, ap, subst, arith}
use Rattle.std.proofs.Math.Nat.{mul-le-mul_right}
use Rattle.std.proofs.lemmas.Bool.{leb-false, leb-true, not-true}
use Rattle.std.specs.List.{AllByRecursion}
use Rattle.base_definitions.specs.Counting.{count_from}
use Rattle.weave_definitions.specs.Weave.{pass_count}
use Rattle.dead_nozzles.specs.Dead.{has}
use Rattle.dead_nozzles.specs.Strokes.{AreLive, Head, IsHead, IsLiveShot, Shot, StartsRise, HeadStroke, all_strokes, firings_of, head_span, insert, inserted}
use Rattle.dead_nozzles.specs.Strokes.{is_fired, left_by, made_up, made_up_by, make_up_stroke, make_up_strokes, missing, regular_strokes, row_under, shot, stroke_at}
use Rattle.dead_nozzles.proofs.Lists.{all-filter, all-flat, all-map, all-mapped, both-true, has-outside}
use Rattle.dead_nozzles.proofs.Firing.{is-fired, over, regular-tells}
use Rattle.dead_nozzles.proofs.MakeUp.{AreLow, Maker, has-first, has-left, maker, makes, missing-low, reach}

-- ---- strokes among strokes

all-insert : (P : HeadStroke → Type 0) (s : HeadStroke) (ts : List HeadStroke) → P s → AllByRecursion P ts → AllByRecursion P (insert s ts)
all-insert P s [] p all = (p, tt)
all-insert P s (t ∷ ts) p all = grind (arith, all-insert P s ts p all.1)

pub all-inserted : (P : HeadStroke → Type 0) (ss ts : List HeadStroke) → AllByRecursion P ss → AllByRecursion P ts → AllByRecursion P (inserted ss ts)
all-inserted P [] ts more all = all
all-inserted P (s ∷ ss) ts more all = all-insert P s (inserted ss ts) more.0 (all-inserted P ss ts more.1 all)

-- ---- live nozzles

abbrev IsLive : Head → HeadStroke → Type 0
IsLive h s = AllByRecursion (IsLiveShot h s.start) s.shots

shot-live : (h : Head) (wanted : ℕ → Bool) (start i : ℕ) → i < h.nozzles → AllByRecursion (IsLiveShot h start) (shot h wanted i (row_under h start i))
shot-live h wanted start i few = grind (arith, both-true, not-true, over)

stroke-live : (h : Head) (wanted : ℕ → Bool) (start : ℕ) → IsLive h (stroke_at h wanted start)
stroke-live h wanted start =
    all-flat (IsLiveShot h start) (λ i. shot h wanted i (row_under h start i)) 0 h.nozzles
    (λ i from below. shot-live h wanted start i (omega arith))

made-live : (h : Head) (j most : ℕ) (rows : List ℕ) → AreLive h (made_up h j most rows)
made-live h j zero rows = tt
made-live h j (suc most) [] = tt
made-live h j (suc most) (row ∷ rows) =
    grind (arith, stroke-live, made-live h j most (left_by (make_up_stroke h j row (row ∷ rows)).shots (row ∷ rows)))

pub all-live : (h : Head) → IsHead h → AreLive h (all_strokes h)
all-live h is =
    all-inserted (IsLive h) (make_up_strokes h) (regular_strokes h)
    (subst (λ o. AreLive h (made_up_by h o)) (sym is.is_live) (made-live h is.live (length (missing h)) (missing h)))
    (all-mapped (IsLive h) (λ t. stroke_at h (λ row. true) (t * h.nozzles)) 0 (pass_count h.nozzles h.pitch h.height)
    (λ t from below. stroke-live h (λ row. true) (t * h.nozzles)))

-- ---- starts

insert-rises : (s : HeadStroke) (ts : List HeadStroke) → StartsRise ts → AllByRecursion (λ (k : HeadStroke). k.start ≢ s.start) ts → StartsRise (insert s ts)
insert-rises s [] rises apart = (tt, tt)
insert-rises s (t ∷ ts) rises apart = grind (arith, all-insert, all-map, leb-false, leb-true, insert-rises s ts rises.1 apart.1)

-- where a make-up stroke starts
pub record StartsAt (h : Head) (j : ℕ) (rows : List ℕ) (k : HeadStroke) : Type 0 where
  pub row : ℕ
  pub is : has rows row ≡ true
  pub start : k.start ≡ row + head_span h - j * h.pitch

left-has : (shots : List Shot) (rows : List ℕ) (y : ℕ) → has (left_by shots rows) y ≡ true → (has rows y ≡ true) × (not (is_fired shots y) ≡ true)
left-has shots rows y e = both-true (has rows y) (not (is_fired shots y)) (sym (has-left shots rows y) ∙ e)

pub made-starts : (h : Head) (j most : ℕ) (rows : List ℕ) → AllByRecursion (StartsAt h j rows) (made_up h j most rows)
made-starts h j zero rows = tt
made-starts h j (suc most) [] = tt
made-starts h j (suc most) (row ∷ rows) =
    let shots : List Shot = (make_up_stroke h j row (row ∷ rows)).shots in
    let left : List ℕ = left_by shots (row ∷ rows) in (
      record { row = row; is = has-first row rows; start = refl },
      all-map (StartsAt h j left) (StartsAt h j (row ∷ rows)) (made_up h j most left)
          (λ k s. record { row = s.row; is = (left-has shots (row ∷ rows) s.row s.is).0; start = s.start }) (made-starts h j most left),
    )

made-rise : (h : Head) (j most : ℕ) (rows : List ℕ) (base : List HeadStroke) → Maker h j → AreLow h rows → StartsRise base
    → ((y : ℕ) → has rows y ≡ true → AllByRecursion (λ (k : HeadStroke). k.start ≢ y + head_span h - j * h.pitch) base)
    → StartsRise (inserted (made_up h j most rows) base)
made-rise h j zero rows base m low rises apart = rises
made-rise h j (suc most) [] base m low rises apart = rises
made-rise h j (suc most) (row ∷ rows) base m low rises apart =
    let made : HeadStroke = make_up_stroke h j row (row ∷ rows) in
    let left : List ℕ = left_by made.shots (row ∷ rows) in
    let rest : List HeadStroke = made_up h j most left in
    let made_row : is_fired made.shots row ≡ true = makes h j row (row ∷ rows) m (has-first row rows) low.0 in
    insert-rises made (inserted rest base)
    (made-rise h j most left base m (all-filter (λ y. y < h.height) (λ row. not (is_fired made.shots row)) (row ∷ rows) low) rises
    (λ y e. apart y (left-has made.shots (row ∷ rows) y e).0))
    (all-inserted (λ (k : HeadStroke). k.start ≢ made.start) rest base
    (all-map (StartsAt h j left) (λ (k : HeadStroke). k.start ≢ made.start) rest
    (λ k s same. twice made.shots row s.row (let e : s.row ≡ row = omega (arith, same, s.start, reach h j m) in e) made_row
    (not-true (is_fired made.shots s.row) (left-has made.shots (row ∷ rows) s.row s.is).1))
    (made-starts h j most left))
    (apart row (has-first row rows)))
  where
    twice : (shots : List Shot) (y k : ℕ) → k ≡ y → is_fired shots y ≡ true → is_fired shots k ≡ false → ⊥
    twice shots y k e a b = let c : is_fired shots y ≡ false = ap (is_fired shots) (sym e) ∙ b in cc

regular-rise : (h : Head) (n many : ℕ) → 1 ≤ h.nozzles → StartsRise (map (λ t. stroke_at h (λ row. true) (t * h.nozzles)) (count_from n many))
regular-rise h n zero some = tt
regular-rise h n (suc many) some = (
  all-mapped (λ (k : HeadStroke). n * h.nozzles < k.start) (λ t. stroke_at h (λ row. true) (t * h.nozzles)) (n + 1) many
      (λ t from below. let next : (n + 1) * h.nozzles ≤ t * h.nozzles = mul-le-mul_right h.nozzles from in
      let spread : (n + 1) * h.nozzles ≡ n * h.nozzles + h.nozzles = omega arith in omega (arith, next, spread, some)),
  regular-rise h (n + 1) many some,
)

-- no pass starts where a missing row is made up
regular-apart : (h : Head) (is : IsHead h) (y : ℕ) → has (missing h) y ≡ true
    → AllByRecursion (λ (k : HeadStroke). k.start ≢ y + head_span h - is.live * h.pitch) (regular_strokes h)
regular-apart h is y e =
    let m : Maker h is.live = maker h is in
    let shots : List Shot = firings_of (regular_strokes h) in
    let parts = left-has shots (count_from 0 h.height) y e in
    let low : y < h.height = omega (arith, has-outside 0 h.height y parts.0) in
    let not_fired : is_fired shots y ≡ false = not-true (is_fired shots y) parts.1 in
    elim (regular-tells h y is.some_nozzles is.some_pitch is.coprime) [
      | inl one ↦ absurd (let fired : is_fired shots y ≡ true = is-fired y shots one.once in let b : true ≡ false = sym fired ∙ not_fired in cc)
      | inr nowhere ↦ all-mapped (λ (k : HeadStroke). k.start ≢ y + head_span h - is.live * h.pitch)
          (λ t. stroke_at h (λ row. true) (t * h.nozzles)) 0 (pass_count h.nozzles h.pitch h.height)
          (λ t from below same. nowhere.none t from below (record {
            nozzle = is.live;
            few = m.low;
            hits = record { live = m.live; is_wanted = refl; over = record { place = omega (arith, same, reach h is.live m); low = low } };
          }))
    ]

pub all-rise : (h : Head) → IsHead h → StartsRise (all_strokes h)
all-rise h is =
    subst (λ o. StartsRise (inserted (made_up_by h o) (regular_strokes h))) (sym is.is_live)
    (made-rise h is.live (length (missing h)) (missing h) (regular_strokes h) (maker h is) (missing-low h)
    (regular-rise h 0 (pass_count h.nozzles h.pitch h.height) is.some_nozzles) (regular-apart h is))
