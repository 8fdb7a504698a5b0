-- The mean of an amount with grain.
use Rattle.std.proofs.Common.{◌≡◌, ◌⊎◌, ℕ, zero, suc, ◌+◌, ◌-◌, ◌*◌, ◌/◌, ◌%◌, ◌<◌, ◌≤◌, Bool, eqb, ap, arith, inl, inr, refl, sym, ◌∙◌}
use Rattle.std.proofs.lemmas.Bool.{cases_eq, eq-eqb, ne_eqb}
use Rattle.std.proofs.lemmas.Nat.{mod_below}
use Rattle.grain_laws.proofs.Rounds.{each_once, round}
use Rattle.grain_laws.proofs.Shares.{each_share}
use Rattle.grain_laws.proofs.Tallies.{count_is, tally, tally_same}
use Rattle.grain_laws.specs.Times.{times_along}
use Rattle.printer_definitions.specs.Inks.{ink_place}
use Rattle.printer_definitions.specs.declared.inks.Ink.{Ink}
use Rattle.separation_definitions.specs.Grain.{grain_place, grained, moved, reach}

-- sixteen doublings
places : round 16 ≡ 65536
unfolding round
places = refl

-- an amount is so many steps above the lowest one if its share is
same_step : (a far share step : ℕ) → far ≤ a → eqb (a + share - far) (a + step - far) ≡ eqb share step
same_step a far share step near = elim (cases_eq share step) [
  | inl same ↦ eq-eqb (a + share - far) (a + step - far) (ap (λ n. a + n - far) same) ∙ sym (eq-eqb share step same)
  | inr other ↦ ne_eqb (a + share - far) (a + step - far) (λ same. other (omega (arith, same))) ∙ sym (ne_eqb share step other)
]

-- places along a row are those of a recurrence
along : (ink : Ink) (x y k : ℕ)
    → grain_place ink (x + k) y ≡ (49471 * k + (49471 * x + 37344 * y + 16384 * ink_place ink)) % 65536
along ink x y k = ap (λ n. n % 65536) (omega arith)

below : (far step : ℕ) → step ≤ 2 * far → step < 2 * far + 1
below far step few = omega (arith, few)

some_places : 0 < 65536
some_places = omega arith

place_low : (ink : Ink) (x y : ℕ) → grain_place ink x y < 65536
place_low ink x y = mod_below (49471 * x + 37344 * y + 16384 * ink_place ink) 65536 some_places

near : (grain limit a : ℕ) → reach grain limit a ≤ a
near grain limit a = omega arith

-- Grain 0 also is a step of a reach of 0.
grained_is : (grain limit place a : ℕ) → place < 65536 → grained grain limit place a ≡ moved (reach grain limit a) place a
grained_is zero limit place a low =
    let none : 0 ≡ reach 0 limit a = omega arith in
    let still : a ≡ moved 0 place a = omega arith in
    still ∙ ap (λ far. moved far place a) none
grained_is (suc n) limit place a low = refl

pub mean_kept : (grain limit a x y : ℕ) (ink : Ink) (step : ℕ) → step ≤ 2 * reach grain limit a
    → (times_along ink x y grain limit a (a + step - reach grain limit a) ≡ 65536 / (2 * reach grain limit a + 1))
    ⊎ (times_along ink x y grain limit a (a + step - reach grain limit a) ≡ 65536 / (2 * reach grain limit a + 1) + 1)
unfolding times_along
mean_kept grain limit a x y ink step few =
    let far : ℕ = reach grain limit a in
    let m : ℕ = 2 * far + 1 in
    let test : ℕ → Bool = λ place. eqb (place * m / 65536) step in
    let b : ℕ = 49471 * x + 37344 * y + 16384 * ink_place ink in
    let count : times_along ink x y grain limit a (a + step - far) ≡ tally test 65536 =
    count_is (λ column. eqb (grained grain limit (grain_place ink column y) a) (a + step - far)) x 65536
    ∙ tally_same (λ k. eqb (grained grain limit (grain_place ink (x + k) y) a) (a + step - far))
    (λ k. test ((49471 * k + b) % 65536)) 65536
    (λ k low. ap (λ n. eqb n (a + step - far)) (grained_is grain limit (grain_place ink (x + k) y) a (place_low ink (x + k) y))
    ∙ same_step a far (grain_place ink (x + k) y * m / 65536) step (near grain limit a)
    ∙ ap test (along ink x y k))
    ∙ round_once test b in
    elim (each_share m 65536 step (below far step few) some_places) [
      | inl is ↦ inl (count ∙ is)
      | inr is ↦ inr (count ∙ is)
    ]
  where
    round_once : (test : ℕ → Bool) (b : ℕ) → tally (λ k. test ((49471 * k + b) % 65536)) 65536 ≡ tally test 65536
    round_once test b =
        ap (λ n. tally (λ k. test ((49471 * k + b) % n)) n) (sym places) ∙ each_once 16 49471 b test (omega arith)
        ∙ ap (λ n. tally test n) places
