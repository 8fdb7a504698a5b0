-- The make-up strokes fire each missing row once, and all strokes each row of the window.
use Rattle.std.proofs.Common.{◌≡◌, ℕ, zero, suc, ◌+◌, ◌-◌, ◌*◌, ◌<◌, ◌≤◌, Bool, true, false, cond, not, ◌&&◌, ◌||◌, ◌==◌, inl, inr}
use Rattle.std.proofs.Common.{List, [], ◌∷◌, length, Some, refl, sym, ◌∙◌, ap, arith, nat_lt, if◌then◌else◌}
use Rattle.std.proofs.Math.Nat.{mul-le-mul_right}
use Rattle.std.proofs.lemmas.Bool.{cond-false, eq-eqb, lt-ltb, ltb-false, ltb-true}
use Rattle.std.proofs.lemmas.List.Sums.{count_by-le-length, length-filter}
use Rattle.std.specs.List.{AllByRecursion}
use Rattle.base_definitions.specs.Counting.{count_from}
use Rattle.weave_definitions.specs.Weave.{nozzle_row, pass_count}
use Rattle.dead_nozzles.specs.Dead.{first_live, has, least_live}
use Rattle.dead_nozzles.specs.Strokes.{Head, IsHead, Shot, HeadStroke, all_strokes, firings_of, head_span, insert, inserted, is_fired, left_by}
use Rattle.dead_nozzles.specs.Strokes.{made_up, make_up_stroke, make_up_strokes, missing, regular_strokes}
use Rattle.dead_nozzles.proofs.Lists.{Nowhere, all-filter, all-numbers, count-more, has-filter, has-inside, has-outside}
use Rattle.dead_nozzles.proofs.Firing.{Hits, InPass, Over, count, is-fired, not-fired, one-place, over, pass-is, regular-tells, stroke-tells}

-- a live nozzle that makes up
pub record Maker (h : Head) (j : ℕ) : Type 0 where
  pub near : 1 ≤ h.pitch
  pub low : j < h.nozzles
  pub live : has h.dead j ≡ false

-- it is no further down than the last nozzle
pub reach : (h : Head) (j : ℕ) → Maker h j → j * h.pitch ≤ head_span h
reach h j m = mul-le-mul_right h.pitch (let most : j ≤ h.nozzles - 1 = omega (arith, m.low) in most)

maker-hits : (h : Head) (j y : ℕ) (rows : List ℕ) → Maker h j → has rows y ≡ true → y < h.height
    → Hits h (has rows) (y + head_span h - j * h.pitch) y j
maker-hits h j y rows m e low = grind (arith, over, reach)

pub makes : (h : Head) (j y : ℕ) (rows : List ℕ) → Maker h j → has rows y ≡ true → y < h.height
    → is_fired (make_up_stroke h j y rows).shots y ≡ true
makes h j y rows m e low =
    elim (stroke-tells h (has rows) (y + head_span h - j * h.pitch) y m.near) [
      | inl one ↦ is-fired y (make_up_stroke h j y rows).shots one.once
      | inr nowhere ↦ absurd (nowhere.none j (omega arith) (omega (arith, m.low)) (maker-hits h j y rows m e low))
    ]

pub has-first : (y : ℕ) (rows : List ℕ) → has (y ∷ rows) y ≡ true
has-first y rows = ap (λ b. b || has rows y) (eq-eqb y y refl)

pub has-left : (shots : List Shot) (rows : List ℕ) (y : ℕ) → has (left_by shots rows) y ≡ (has rows y && not (is_fired shots y))
has-left shots rows y = has-filter (λ row. not (is_fired shots row)) rows y

-- a stroke leaves fewer rows
pub fewer : (h : Head) (j y : ℕ) (rows : List ℕ) (most : ℕ) → Maker h j → y < h.height → suc (length rows) ≤ suc most
    → length (left_by (make_up_stroke h j y (y ∷ rows)).shots (y ∷ rows)) ≤ most
fewer h j y rows most m low few = grind (arith, cond-false, count_by-le-length, has-first, length-filter, makes)

once-more : (b c : Bool) (n : ℕ) → b ≡ true → c ≡ true → n ≡ 1 → n + cond (b && not c) 1 0 ≡ cond b 1 0
once-more true true n eb ec e = omega (arith, e)
once-more true false n eb ec e = cc
once-more false c n eb ec e = cc

none-more : (b c : Bool) (n : ℕ) → c ≡ false → n ≡ 0 → n + cond (b && not c) 1 0 ≡ cond b 1 0
none-more true false n ec e = omega (arith, e)
none-more false false n ec e = omega (arith, e)
none-more b true n ec e = cc

adds : (h : Head) (j row : ℕ) (rows : List ℕ) (y : ℕ) → 1 ≤ h.pitch
    → count y (make_up_stroke h j row rows).shots + cond (has rows y && not (is_fired (make_up_stroke h j row rows).shots y)) 1 0
    ≡ cond (has rows y) 1 0
adds h j row rows y near =
    let shots : List Shot = (make_up_stroke h j row rows).shots in
    elim (stroke-tells h (has rows) (row + head_span h - j * h.pitch) y near) [
      | inl one ↦ once-more (has rows y) (is_fired shots y) (count y shots) one.has.is_wanted (is-fired y shots one.once) one.once
      | inr nowhere ↦ none-more (has rows y) (is_fired shots y) (count y shots) (not-fired y shots nowhere.never) nowhere.never
    ]

abbrev pub AreLow : Head → List ℕ → Type 0
AreLow h rows = AllByRecursion (λ y. y < h.height) rows

fires-each : (h : Head) (j most : ℕ) (rows : List ℕ) → Maker h j → AreLow h rows → length rows ≤ most
    → (y : ℕ) → count y (firings_of (made_up h j most rows)) ≡ cond (has rows y) 1 0
fires-each h j zero [] m low few y = refl
fires-each h j zero (row ∷ rows) m low few y = absurd (omega (arith, few))
fires-each h j (suc most) [] m low few y = refl
fires-each h j (suc most) (row ∷ rows) m low few y =
    let made : HeadStroke = make_up_stroke h j row (row ∷ rows) in
    let left : List ℕ = left_by made.shots (row ∷ rows) in
    let later : count y (firings_of (made_up h j most left)) ≡ cond (has left y) 1 0 =
    fires-each h j most left m (all-filter (λ y. y < h.height) (λ row. not (is_fired made.shots row)) (row ∷ rows) low)
    (fewer h j row rows most m low.0 few) y in
    count-more (λ (s : Shot). s.row == y) made.shots (firings_of (made_up h j most left))
    ∙ ap (λ n. count y made.shots + n) (later ∙ ap {B = ℕ} (λ b. cond b 1 0) (has-left made.shots (row ∷ rows) y))
    ∙ adds h j row (row ∷ rows) y m.near

-- ---- the missing rows

live-is : (dead : List ℕ) (n many j : ℕ) → first_live dead (count_from n many) ≡ Some j → (j < n + many) × (has dead j ≡ false)
live-is dead n zero j e = cc
live-is dead n (suc many) j e = grind (arith, live-is dead (n + 1) many j)

pub maker-of : (h : Head) (j : ℕ) → IsHead h → least_live h.nozzles h.dead ≡ Some j → Maker h j
maker-of h j is e =
    let found = live-is h.dead 0 h.nozzles j e in
    record { near = is.some_pitch; low = omega (arith, found.0); live = found.1 }

pub maker : (h : Head) (is : IsHead h) → Maker h is.live
maker h is = maker-of h is.live is is.is_live

pub missing-low : (h : Head) → AreLow h (missing h)
missing-low h =
    all-filter (λ y. y < h.height) (λ row. not (is_fired (firings_of (regular_strokes h)) row)) (count_from 0 h.height)
    (all-numbers (λ y. y < h.height) 0 h.height (λ k from below. omega arith))

pub missing-made : (h : Head) → IsHead h → (y : ℕ) → count y (firings_of (make_up_strokes h)) ≡ cond (has (missing h) y) 1 0
missing-made h is y = grind (arith, count, fires-each, maker, missing-low)

has-count : (many y : ℕ) → has (count_from 0 many) y ≡ nat_lt y many
has-count many y = grind (arith, has-inside, has-outside, ltb-false, ltb-true)

-- ---- all strokes

count-insert : (y : ℕ) (s : HeadStroke) (ts : List HeadStroke) → count y (firings_of (insert s ts)) ≡ count y s.shots + count y (firings_of ts)
count-insert y s [] = count-more (λ (s : Shot). s.row == y) s.shots []
count-insert y s (t ∷ ts) = grind (arith, count, count-more, count-insert y s ts)

count-inserted : (y : ℕ) (ss ts : List HeadStroke) → count y (firings_of (inserted ss ts)) ≡ count y (firings_of ss) + count y (firings_of ts)
count-inserted y [] ts = omega arith
count-inserted y (s ∷ ss) ts =
    omega (
      arith,
      count-insert y s (inserted ss ts),
      count-inserted y ss ts,
      count-more (λ (s : Shot). s.row == y) s.shots (firings_of ss),
    )

regular-adds : (h : Head) → IsHead h → (y : ℕ)
    → count y (firings_of (regular_strokes h)) + cond (nat_lt y h.height && not (is_fired (firings_of (regular_strokes h)) y)) 1 0
    ≡ cond (nat_lt y h.height) 1 0
regular-adds h is y =
    let shots : List Shot = firings_of (regular_strokes h) in
    elim (regular-tells h y is.some_nozzles is.some_pitch is.coprime) [
      | inl one ↦ once-more (nat_lt y h.height) (is_fired shots y) (count y shots) (lt-ltb y h.height one.has.hits.over.low)
          (is-fired y shots one.once) one.once
      | inr nowhere ↦ none-more (nat_lt y h.height) (is_fired shots y) (count y shots) (not-fired y shots nowhere.never) nowhere.never
    ]

pub each-row : (h : Head) → IsHead h → (y : ℕ) → count y (firings_of (all_strokes h)) ≡ cond (nat_lt y h.height) 1 0
each-row h is y =
    let shots : List Shot = firings_of (regular_strokes h) in
    let rows : has (missing h) y ≡ (nat_lt y h.height && not (is_fired shots y)) =
    has-left shots (count_from 0 h.height) y ∙ ap (λ b. b && not (is_fired shots y)) (has-count h.height y) in
    omega (
      arith,
      count-inserted y (make_up_strokes h) (regular_strokes h),
      missing-made h is y,
      ap {B = ℕ} (λ b. cond b 1 0) rows,
      regular-adds h is y,
    )

-- ---- which rows are missing

pub missing-dead : (h : Head) → IsHead h → (t i y : ℕ) → i < h.nozzles → nozzle_row h.nozzles h.pitch h.height t i ≡ Some y
    → has (missing h) y ≡ has h.dead i
missing-dead h is t i y few e =
    has-left shots (count_from 0 h.height) y
    ∙ ap (λ b. b && not (is_fired shots y)) (has-inside 0 h.height y (omega arith) (omega (arith, o.low)))
    ∙ elim (regular-tells h y is.some_nozzles is.some_pitch is.coprime) [
      | inl one ↦ ap not (is-fired y shots one.once)
          ∙ sym (ap (has h.dead) (sym (one-place h y one.at one.has.nozzle t i is.some_nozzles is.some_pitch is.coprime one.has.few few one.has.hits.over o).1)
          ∙ one.has.hits.live)
      | inr nowhere ↦ ap not (not-fired y shots nowhere.never) ∙ by_test (has h.dead i) refl nowhere
    ]
  where
    shots : List Shot
    shots = firings_of (regular_strokes h)

    o : Over h (t * h.nozzles) i y
    o = over h (t * h.nozzles) i y e

    by_test : (b : Bool) → has h.dead i ≡ b → Nowhere (InPass h y) (count y shots) 0 (pass_count h.nozzles h.pitch h.height) → true ≡ b
    by_test true eb nowhere = refl
    by_test false eb nowhere =
        absurd (nowhere.none t (omega arith) (omega (arith, pass-is h y t i is.some_nozzles o))
        (record { nozzle = i; few = few; hits = record { live = eb; is_wanted = refl; over = o } }))
