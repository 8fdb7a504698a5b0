-- The owners of rows before any is made up, and what a stroke takes.
use Rattle.std.proofs.lemmas.Grind.{common_steps}
use Rattle.std.proofs.Common.{◌≡◌, ◌≢◌, ℕ, zero, suc, ◌+◌, ◌*◌, ◌<◌, ◌≤◌, Bool, true, false, cond, not, ◌&&◌, ◌||◌, ◌==◌, inl, inr, ◌⊎◌}
use Rattle.std.proofs.Common.{List, [], ◌∷◌, ◌++◌, length, Option, None, Some, refl, sym, ◌∙◌, ap, arith, if◌then◌else◌, set}
use Rattle.std.proofs.Common.{get_or-set_same, get_or-set_other, length-set}
use Rattle.std.proofs.lemmas.Bool.{cases_eq, cases_lt, eq-eqb, ne_eqb}
use Rattle.std.proofs.lemmas.List.{get_or_append_left, get_or_at}
use Rattle.std.specs.List.{filter, flat_map}
use Rattle.std.specs.Option.{is_some}
use Rattle.base_definitions.specs.Counting.{count_from}
use Rattle.dead_nozzles.specs.Dead.{has}
use Rattle.dead_nozzles.specs.Plans.{ArePassOwners, IsPassOwner, is_free, is_of, owner, taken}
use Rattle.dead_nozzles.specs.Strokes.{Head, IsHead, Shot, is_fired, missing, row_under, shot, stroke_at}
use Rattle.dead_nozzles.proofs.Lists.{has-inside}
use Rattle.dead_nozzles.proofs.Firing.{Over, one-place, over}
use Rattle.dead_nozzles.proofs.MakeUp.{has-left, missing-dead}

-- ---- the owners of passes

-- the row under a live nozzle has that nozzle's pass as its owner, and the row under a dead one has none
abbrev pub OfPasses : Head → List (Option ℕ) → Type 0
OfPasses h owners =
    (t i y : ℕ) → i < h.nozzles → row_under h (t * h.nozzles) i ≡ Some y → is_of (t * h.nozzles) (owner owners y) ≡ not (has h.dead i)

pub passes-own : (h : Head) (owners : List (Option ℕ)) → IsHead h → ArePassOwners h owners → OfPasses h owners
passes-own h owners is are t i y few e = by_dead (has h.dead p.nozzle) refl
  where
    o : Over h (t * h.nozzles) i y
    o = over h (t * h.nozzles) i y e

    p : IsPassOwner h y (owner owners y)
    p = are.each y o.low

    same : (t ≡ p.pass) × (i ≡ p.nozzle)
    same = one-place h y t i p.pass p.nozzle is.some_nozzles is.some_pitch is.coprime few p.few o (over h (p.pass * h.nozzles) p.nozzle y p.over)

    by_dead : (b : Bool) → has h.dead p.nozzle ≡ b → is_of (t * h.nozzles) (owner owners y) ≡ not (has h.dead i)
    by_dead true eb =
        ap (is_of (t * h.nozzles)) (p.found_is ∙ ap (λ b. cond b None (Some (p.pass * h.nozzles))) eb)
        ∙ sym (ap not (ap (has h.dead) same.1 ∙ eb))
    by_dead false eb =
        ap (is_of (t * h.nozzles)) (p.found_is ∙ ap (λ b. cond b None (Some (p.pass * h.nozzles))) eb)
        ∙ eq-eqb (p.pass * h.nozzles) (t * h.nozzles) (ap (λ t. t * h.nozzles) (sym same.0))
        ∙ sym (ap not (ap (has h.dead) same.1 ∙ eb))

-- an owner is the start of a pass
pub record IsPass (h : Head) (start : ℕ) : Type 0 where
  pub pass : ℕ
  pub is : start ≡ pass * h.nozzles

pub pass-owner : (h : Head) (owners : List (Option ℕ)) → ArePassOwners h owners → (y k : ℕ) → y < h.height → owner owners y ≡ Some k → IsPass h k
pass-owner h owners are y k low e = grind arith

-- the rows without an owner are the missing ones
free-missing : (h : Head) (owners : List (Option ℕ)) → IsHead h → ArePassOwners h owners → (y : ℕ) → y < h.height
    → is_free (owner owners y) ≡ has (missing h) y
free-missing h owners is are y low = grind (arith, missing-dead)

-- a list keeps the same by tests that agree on it
pub filter-same : (test other : ℕ → Bool) (n many : ℕ) → ((y : ℕ) → n ≤ y → y < n + many → test y ≡ other y)
    → filter test (count_from n many) ≡ filter other (count_from n many)
filter-same test other n zero same = refl
filter-same test other n (suc many) same = grind (arith, filter-same test other (n + 1) many (λ y from below. same y (omega arith) (omega arith)))

pub missing-free : (h : Head) (owners : List (Option ℕ)) → IsHead h → ArePassOwners h owners
    → missing h ≡ filter (λ y. is_free (owner owners y)) (count_from 0 h.height)
missing-free h owners is are = grind (arith, filter-same, free-missing, has-inside, has-left)

-- ---- what a stroke takes

-- the start of a stroke, where it fires a row; else the owner that the row has
abbrev pub owner_after : Bool → ℕ → Option ℕ → Option ℕ
owner_after fires start other = cond fires (Some start) other

-- The nozzles from n on are left to take their rows.
pub record TakenSoFar (h : Head) (start : ℕ) (old now : List (Option ℕ)) (n many : ℕ) : Type 0 where
  pub rows : length now ≡ length old
  pub kept : (y : ℕ) → (owner now y ≡ owner old y) ⊎ (owner now y ≡ Some start)
  pub rest : (y : ℕ) → owner_after (is_fired (stroke_at h (λ y. is_free (owner old y)) start).shots y) start (owner old y)
      ≡ owner_after (is_fired (flat_map (λ i. shot h (λ y. is_free (owner old y)) i (row_under h start i)) (count_from n many)) y) start (owner now y)

-- a nozzle fires nothing
pub taken-skip : {h : Head} {start : ℕ} {old now : List (Option ℕ)} {n many next : ℕ} → TakenSoFar h start old now n many → many ≡ suc next
    → shot h (λ y. is_free (owner old y)) n (row_under h start n) ≡ [] → TakenSoFar h start old now (n + 1) next
taken-skip {h} {start} {old} {now} {n} {next} so_far more none = grind (arith, owner_after)

-- a live nozzle over a row fires it where it is wanted
shot-fires : (h : Head) (wanted : ℕ → Bool) (n row y : ℕ) (others : List Shot) → has h.dead n ≡ false
    → is_fired (shot h wanted n (Some row) ++ others) y ≡ ((wanted row && (row == y)) || is_fired others y)
shot-fires h wanted n row y others live = grind arith

-- what owns a row that a nozzle is over, before and after it takes it
at-row : (start : ℕ) (b r : Bool) (old now : Option ℕ) → (now ≡ old) ⊎ (now ≡ Some start) → b ≡ is_free old
    → owner_after (b || r) start now ≡ owner_after r start (taken start now)
at-row start b r None now (inl e) eb = grind (arith, owner_after)
at-row start b r (Some k) now (inl e) eb =
    ap (λ b. owner_after (b || r) start now) eb ∙ ap (owner_after r start) e ∙ sym (ap (λ o. owner_after r start (taken start o)) e)
at-row start b r old now (inr e) eb = grind (arith, owner_after)

-- it is the owner from before, or the stroke
still-kept : (start : ℕ) (old now : Option ℕ) → (now ≡ old) ⊎ (now ≡ Some start) → (taken start now ≡ old) ⊎ (taken start now ≡ Some start)
still-kept start None now (inl e) = inr (ap (taken start) e)
still-kept start (Some k) now (inl e) = inl (ap (taken start) e)
still-kept start old now (inr e) = inr (ap (taken start) e)

both-and : (a b : Bool) → b ≡ true → (a && b) ≡ a
both-and true b e = e
both-and false b e = refl

none-and : (a b : Bool) → b ≡ false → (a && b) ≡ false
none-and true b e = e
none-and false b e = refl

-- a live nozzle takes the row under it
pub taken-step : {h : Head} {start : ℕ} {old now : List (Option ℕ)} {n many next : ℕ} (row : ℕ)
    → TakenSoFar h start old now n many → many ≡ suc next → has h.dead n ≡ false → row_under h start n ≡ Some row → row < length now
    → TakenSoFar h start old (set now row (taken start (owner now row))) (n + 1) next
taken-step {h} {start} {old} {now} {n} {many} {next} row so_far more live under inside =
    grind (arith, common_steps, at-row, both-and, cases_eq, eq-eqb, get_or-set_other, get_or-set_same, length-set, ne_eqb, none-and, owner_after, shot-fires, still-kept)

-- ---- the row under a live nozzle

-- no row
pub live-none : (h : Head) (wanted : ℕ → Bool) (start n : ℕ) → None ≡ (if has h.dead n then None else row_under h start n)
    → shot h wanted n (row_under h start n) ≡ []
live-none h wanted start n e = grind arith

-- a row
pub live-some : (h : Head) (start n row : ℕ) → Some row ≡ (if has h.dead n then None else row_under h start n)
    → (has h.dead n ≡ false) × (row_under h start n ≡ Some row)
live-some h start n row e = grind arith

-- ---- one more row has its owner

pub one-more : (h : Head) (owners : List (Option ℕ)) (n : ℕ) (found : Option ℕ) → length owners ≡ n
    → ((row : ℕ) → row < n → IsPassOwner h row (owner owners row)) → IsPassOwner h n found
    → (row : ℕ) → row < n + 1 → IsPassOwner h row (owner (owners ++ found ∷ []) row)
one-more h owners n found len each is row low = grind (arith, cases_lt, get_or_append_left, get_or_at)

-- ---- whether a row has an owner

pub owned-not-free : (o : Option ℕ) (b : Bool) → b ≡ is_some o → b ≡ true → is_free o ≡ false
owned-not-free None b e eb = cc
owned-not-free (Some k) b e eb = refl

pub not-owned-none : (o : Option ℕ) (b : Bool) → b ≡ is_some o → b ≡ false → o ≡ None
not-owned-none None b e eb = refl
not-owned-none (Some k) b e eb = cc
