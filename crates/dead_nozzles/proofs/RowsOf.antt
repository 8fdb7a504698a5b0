-- The row of a nozzle in a stroke.
use Rattle.std.proofs.Common.{◌≡◌, ◌≢◌, ℕ, zero, suc, ◌+◌, ◌<◌, ◌≤◌, Bool, true, false, cond, not, ◌&&◌, inl, inr, ◌⊎◌}
use Rattle.std.proofs.Common.{List, [], ◌∷◌, ◌++◌, Option, None, Some, refl, ◌∙◌, ap, arith, if◌then◌else◌}
use Rattle.std.proofs.lemmas.Bool.{cases_eq, eq-eqb, ne_eqb}
use Rattle.std.specs.List.{flat_map}
use Rattle.base_definitions.specs.Counting.{count_from}
use Rattle.dead_nozzles.specs.Dead.{has}
use Rattle.dead_nozzles.specs.Plans.{shot_row}
use Rattle.dead_nozzles.specs.Strokes.{Head, Shot, is_fired, row_under, shot, stroke_at}
use Rattle.dead_nozzles.proofs.Firing.{Hits, is-fired, not-fired, over, stroke-tells}

-- the row under a nozzle, where the nozzle is live and the row is wanted
abbrev pub wanted_row : Head → (ℕ → Bool) → ℕ → Option ℕ → Option ℕ
wanted_row h wanted nozzle None = None
wanted_row h wanted nozzle (Some row) = cond (not (has h.dead nozzle) && wanted row) (Some row) None

-- what one nozzle fires
own-shot : (h : Head) (wanted : ℕ → Bool) (i : ℕ) (row : Option ℕ) (others : List Shot) → shot_row others i ≡ None
    → shot_row (shot h wanted i row ++ others) i ≡ wanted_row h wanted i row
own-shot h wanted i None others none = none
own-shot h wanted i (Some row) others none = grind (arith, eq-eqb)

other-shot : (h : Head) (wanted : ℕ → Bool) (k i : ℕ) (row : Option ℕ) (others : List Shot) → k ≢ i
    → shot_row (shot h wanted k row ++ others) i ≡ shot_row others i
other-shot h wanted k i None others apart = refl
other-shot h wanted k i (Some row) others apart = grind (arith, ne_eqb)

shots-past : (h : Head) (wanted : ℕ → Bool) (start n many i : ℕ) → i < n
    → shot_row (flat_map (λ k. shot h wanted k (row_under h start k)) (count_from n many)) i ≡ None
shots-past h wanted start n zero i past = refl
shots-past h wanted start n (suc many) i past = grind (arith, other-shot, shots-past h wanted start (n + 1) many i (omega arith))

shots-row : (h : Head) (wanted : ℕ → Bool) (start n many i : ℕ) → n ≤ i → i < n + many
    → shot_row (flat_map (λ k. shot h wanted k (row_under h start k)) (count_from n many)) i ≡ wanted_row h wanted i (row_under h start i)
shots-row h wanted start n zero i from below = absurd (omega arith)
shots-row h wanted start n (suc many) i from below =
    by_case (cases_eq n i) (λ apart. shots-row h wanted start (n + 1) many i (omega (arith, apart)) (omega arith))
  where
    others : List Shot
    others = flat_map (λ k. shot h wanted k (row_under h start k)) (count_from (n + 1) many)

    by_case : (n ≡ i) ⊎ (n ≢ i)
        → (n ≢ i → shot_row (flat_map (λ k. shot h wanted k (row_under h start k)) (count_from (n + 1) many)) i ≡ wanted_row h wanted i (row_under h start i))
        → shot_row (shot h wanted n (row_under h start n) ++ flat_map (λ k. shot h wanted k (row_under h start k)) (count_from (n + 1) many)) i
        ≡ wanted_row h wanted i (row_under h start i)
    by_case (inl e) later =
        ap (λ k. shot_row (shot h wanted k (row_under h start k) ++ flat_map (λ k. shot h wanted k (row_under h start k)) (count_from (n + 1) many)) i) e
        ∙ own-shot h wanted i (row_under h start i) (flat_map (λ k. shot h wanted k (row_under h start k)) (count_from (n + 1) many))
        (shots-past h wanted start (n + 1) many i (omega (arith, e)))
    by_case (inr apart) later =
        other-shot h wanted n i (row_under h start n) (flat_map (λ k. shot h wanted k (row_under h start k)) (count_from (n + 1) many)) apart
        ∙ later apart

-- The row of a nozzle in a stroke is the one under it, where the nozzle is live and the row is wanted.
pub stroke-row : (h : Head) (wanted : ℕ → Bool) (start i : ℕ) → i < h.nozzles
    → shot_row (stroke_at h wanted start).shots i ≡ wanted_row h wanted i (row_under h start i)
stroke-row h wanted start i few = shots-row h wanted start 0 h.nozzles i (omega arith) (omega (arith, few))

-- strokes that want the same rows of the window are the same
shot-same : (h : Head) (wanted other : ℕ → Bool) (start i : ℕ) → ((y : ℕ) → y < h.height → wanted y ≡ other y)
    → shot h wanted i (row_under h start i) ≡ shot h other i (row_under h start i)
shot-same h wanted other start i same = grind (arith, over)

shots-same : (h : Head) (wanted other : ℕ → Bool) (start : ℕ) (nozzles : List ℕ) → ((y : ℕ) → y < h.height → wanted y ≡ other y)
    → flat_map (λ i. shot h wanted i (row_under h start i)) nozzles ≡ flat_map (λ i. shot h other i (row_under h start i)) nozzles
shots-same h wanted other start [] same = refl
shots-same h wanted other start (i ∷ nozzles) same = grind (arith, shot-same, shots-same h wanted other start nozzles same)

pub stroke-same : (h : Head) (wanted other : ℕ → Bool) (start start' : ℕ) → start ≡ start' → ((y : ℕ) → y < h.height → wanted y ≡ other y)
    → stroke_at h wanted start ≡ stroke_at h other start'
stroke-same h wanted other start start' e same = grind (arith, shots-same)

-- ---- which rows a stroke fires

-- a nozzle of the head fires the row
pub record FiredBy (h : Head) (wanted : ℕ → Bool) (start y : ℕ) : Type 0 where
  pub nozzle : ℕ
  pub few : nozzle < h.nozzles
  pub hits : Hits h wanted start y nozzle
  pub is : is_fired (stroke_at h wanted start).shots y ≡ true

-- none does
pub record FiredByNone (h : Head) (wanted : ℕ → Bool) (start y : ℕ) : Type 0 where
  pub none : (i : ℕ) → i < h.nozzles → Hits h wanted start y i → ⊥
  pub is : is_fired (stroke_at h wanted start).shots y ≡ false

pub fired-cases : (h : Head) (wanted : ℕ → Bool) (start y : ℕ) → 1 ≤ h.pitch → FiredBy h wanted start y ⊎ FiredByNone h wanted start y
fired-cases h wanted start y near =
    elim (stroke-tells h wanted start y near) [
      | inl one ↦ inl (record {
        nozzle = one.at;
        few = omega (arith, one.inside);
        hits = one.has;
        is = is-fired y (stroke_at h wanted start).shots one.once;
      })
      | inr nowhere ↦ inr (record {
        none = λ i few. nowhere.none i (omega arith) (omega (arith, few));
        is = not-fired y (stroke_at h wanted start).shots nowhere.never;
      })
    ]
