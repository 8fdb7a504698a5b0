-- Which nozzle is on a row in which pass. `place` counts rows from the first nozzle's row in the first pass.
use Rattle.std.proofs.Common.{◌≡◌, ℕ, ◌+◌, ◌-◌, ◌*◌, ◌/◌, ◌%◌, ◌<◌, ◌≤◌, Bool, true, false, ◌&&◌, inl, inr, nat_lt, nat_le, if◌then◌else◌}
use Rattle.std.proofs.Common.{None, Some, refl, sym, ◌∙◌, ap, arith}
use Rattle.std.proofs.Math.Nat.{mod-eq_of_lt, mul-add-mod_self_right, mul-div_cancel, mul-le-mul_right}
use Rattle.std.proofs.lemmas.Bool.{and_from, cases_lt, le-leb, leb-true, lt-ltb, ltb-true}
use Rattle.std.proofs.lemmas.Nat.{div-add-mod', le-div, mod_below, mul-mod_first, mul-mod_second}
use Rattle.weave_definitions.specs.Weave.{nozzle_row, pass_count}
use Rattle.weave_definitions.proofs.Rounds.{Inverse}

-- ---- the row under a nozzle

pub record StandsOn (n pitch height t i y : ℕ) : Type 0 where
  pub sum : t * n + i * pitch ≡ (n - 1) * pitch + y
  pub low : y < height

pub stands_on : (n pitch height t i y : ℕ) → nozzle_row n pitch height t i ≡ Some y → StandsOn n pitch height t i y
stands_on n pitch height t i y e = by_test (nat_le first place) (nat_lt (place - first) height) refl refl e
  where
    place : ℕ
    place = t * n + i * pitch

    first : ℕ
    first = (n - 1) * pitch

    by_test : (a b : Bool) → nat_le first place ≡ a → nat_lt (place - first) height ≡ b
        → (if a && b then Some (place - first) else None) ≡ Some y → StandsOn n pitch height t i y
    by_test true true ea eb e =
        let row : place - first ≡ y = cc in
        let reached : first ≤ place = leb-true first place ea in
        let inside : place - first < height = ltb-true (place - first) height eb in
        record { sum = omega arith; low = omega arith }
    by_test true false ea eb e = cc
    by_test false b ea eb e = cc

pub row_under : (n pitch height t i y : ℕ) → StandsOn n pitch height t i y → nozzle_row n pitch height t i ≡ Some y
row_under n pitch height t i y s =
    let place : ℕ = t * n + i * pitch in
    let first : ℕ = (n - 1) * pitch in
    let same : place - first ≡ y = omega (arith, s.sum) in
    let reached : first ≤ place = omega (arith, s.sum) in
    let inside : place - first < height = omega (arith, s.sum, s.low) in
    ap (λ b. if b then Some (place - first) else None) (and_from _ _ (le-leb first place reached) (lt-ltb (place - first) height inside))
    ∙ ap Some same

-- ---- the nozzle of a place

-- times the pitch and its inverse, modulo a round
round-trip : (n pitch inverse k : ℕ) → inverse * pitch % n ≡ 1 % n → k * (inverse * pitch) % n ≡ k % n
round-trip n pitch inverse k e =
    let once : k * 1 ≡ k = omega arith in
    sym (mul-mod_second k (inverse * pitch) n) ∙ ap (λ v. k * v % n) e ∙ mul-mod_second k 1 n ∙ ap (λ v. v % n) once

pub nozzle-only : (n pitch inverse place t i : ℕ) → i < n → inverse * pitch % n ≡ 1 % n → t * n + i * pitch ≡ place
    → place * inverse % n ≡ i
nozzle-only n pitch inverse place t i low e sum =
    let split : place * inverse ≡ t * inverse * n + i * (inverse * pitch) = omega (arith, ap (λ v. v * inverse) sum) in
    ap (λ v. v % n) split ∙ mul-add-mod_self_right (t * inverse) n (i * (inverse * pitch)) ∙ round-trip n pitch inverse i e
    ∙ mod-eq_of_lt low

pub pass-only : (n pitch place t i : ℕ) → 1 ≤ n → t * n + i * pitch ≡ place → (place - i * pitch) / n ≡ t
pass-only n pitch place t i some sum =
    let rest : place - i * pitch ≡ t * n = omega arith in
    ap (λ v. v / n) rest ∙ mul-div_cancel t (omega arith)

-- ---- each place has a nozzle and a pass

-- what lies whole rounds below a number is a number of rounds below it
rounds : (n big small : ℕ) → 1 ≤ n → small ≤ big → small % n ≡ big % n → (big - small) / n * n + small ≡ big
rounds n big small some le e = elim (cases_lt (big / n) (small / n)) [ inl less ↦ absurd (crossed less) | inr more ↦ apart more ]
  where
    crossed : big / n < small / n → ⊥
    crossed less =
        let step : (big / n + 1) * n ≤ small / n * n = mul-le-mul_right n (omega arith) in
        let spread : (big / n + 1) * n ≡ big / n * n + n = omega arith in
        omega (arith, step, spread, div-add-mod' big n, div-add-mod' small n, mod_below big n (omega arith))

    apart : small / n ≤ big / n → (big - small) / n * n + small ≡ big
    apart more =
        let k : ℕ = big / n - small / n in
        let sum : k + small / n ≡ big / n = omega arith in
        let spread : k * n + small / n * n ≡ big / n * n = omega (arith, ap (λ v. v * n) sum) in
        let whole : k * n + small ≡ big = omega (arith, spread, e, div-add-mod' big n, div-add-mod' small n) in
        let rest : big - small ≡ k * n = omega (arith, whole) in
        let many : (big - small) / n ≡ k = ap (λ v. v / n) rest ∙ mul-div_cancel k (omega arith) in
        ap (λ v. v * n + small) many ∙ whole

pub place-is : (n pitch inverse place : ℕ) → 1 ≤ n → inverse * pitch % n ≡ 1 % n → (n - 1) * pitch ≤ place
    → (place - place * inverse % n * pitch) / n * n + place * inverse % n * pitch ≡ place
place-is n pitch inverse place some e high =
    let i : ℕ = place * inverse % n in
    let low : i < n = mod_below (place * inverse) n (omega arith) in
    let under : i * pitch ≤ (n - 1) * pitch = mul-le-mul_right pitch (omega arith) in
    let regroup : place * inverse * pitch ≡ place * (inverse * pitch) = omega arith in
    let same : i * pitch % n ≡ place % n = mul-mod_first (place * inverse) pitch n ∙ ap (λ v. v % n) regroup
    ∙ round-trip n pitch inverse place e in
    rounds n place (i * pitch) some (omega arith) same

pub pass-low : (n pitch height t i y : ℕ) → 1 ≤ n → StandsOn n pitch height t i y → t < pass_count n pitch height
pass-low n pitch height t i y some s =
    let first : ℕ = (n - 1) * pitch in
    let spread : (t + 1) * n ≡ t * n + n = omega arith in
    let fits : (t + 1) * n ≤ height + first + (n - 1) = omega (arith, spread, s.sum, s.low) in
    let low : t + 1 ≤ pass_count n pitch height = le-div (t + 1) (height + first + (n - 1)) n (omega arith) fits in
    omega (arith, low)

-- ---- what the code computes: `round` nozzles, `step` rows apart, and `times` for the inverse

pub record Counts (n pitch round step times first : ℕ) : Type 0 where
  pub round_is : round ≡ n
  pub step_is : step ≡ pitch
  pub first_is : first ≡ (n - 1) * pitch
  pub some : 1 ≤ round
  pub inverse_is : times * step % round ≡ 1 % round

-- those of the head itself
pub own-counts : (n pitch : ℕ) → 1 ≤ n → (found : Inverse n pitch) → Counts n pitch n pitch found.number ((n - 1) * pitch)
own-counts n pitch some found = record {
  round_is = refl;
  step_is = refl;
  first_is = refl;
  some = some;
  inverse_is = found.is;
}

-- the same sum of a pass and a nozzle, in either's names
same-sum : (n pitch round step times first t i : ℕ) → Counts n pitch round step times first → t * round + i * step ≡ t * n + i * pitch
same-sum n pitch round step times first t i c = omega (arith, ap (λ v. t * v) c.round_is, ap (λ v. i * v) c.step_is)

pub place-fires : (n pitch height row round step times first : ℕ) → Counts n pitch round step times first → row < height
    → nozzle_row n pitch height ((row + first - (row + first) * times % round * step) / round) ((row + first) * times % round) ≡ Some row
place-fires n pitch height row round step times first c low =
    let i : ℕ = (row + first) * times % round in
    let t : ℕ = (row + first - i * step) / round in
    let same : (round - 1) * step ≡ (n - 1) * pitch = ap (λ v. (v - 1) * step) c.round_is ∙ ap (λ v. (n - 1) * v) c.step_is in
    let sum : t * round + i * step ≡ row + first = place-is round step times (row + first) c.some c.inverse_is
    (omega (arith, same, c.first_is)) in
    row_under n pitch height t i row (record {
      sum = omega (arith, sum, same-sum n pitch round step times first t i c, c.first_is);
      low = low;
    })

pub place-only : (n pitch height row round step times first t i : ℕ) → Counts n pitch round step times first → i < n
    → nozzle_row n pitch height t i ≡ Some row
    → (t ≡ (row + first - (row + first) * times % round * step) / round) × (i ≡ (row + first) * times % round)
place-only n pitch height row round step times first t i c low e =
    let s : StandsOn n pitch height t i row = stands_on n pitch height t i row e in
    let sum : t * round + i * step ≡ row + first = omega (arith, s.sum, same-sum n pitch round step times first t i c, c.first_is) in
    let nozzle : (row + first) * times % round ≡ i = nozzle-only round step times (row + first) t i (omega (arith, c.round_is))
    c.inverse_is sum in
    (sym (ap (λ k. (row + first - k * step) / round) nozzle ∙ pass-only round step (row + first) t i c.some sum), sym nozzle)
