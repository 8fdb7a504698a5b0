-- A block of errors that is put into a field, or taken from one, place by place.
use Rattle.std.proofs.Common.{ℕ, ℤ, pos, ◌≡◌, ◌≢◌, ◌+◌, ◌<◌, ◌≤◌, ◌∙◌, ap, sym, arith, inl, inr, List, get_or, set, length}
use Rattle.std.proofs.Common.{length-set, get_or-set_same, get_or-set_other, to_z, of_z, w16}
use Rattle.std.proofs.lemmas.Bool.{cases_eq, cases_lt}
use Rattle.std.proofs.lemmas.List.{get_or_past}
use Rattle.std.proofs.lemmas.Int.{ints}
use Rattle.diffusion_definitions.specs.Diffusion.{EachInRange, InRange}
use Rattle.diffusion_definitions.proofs.Ranges.{none_in}
use Rattle.tile_lanes.specs.Held.{HeldInRange, error_held}
use Rattle.tile_lanes.proofs.LaneSteps.{held_more}

-- The numbers from `first` to before n have their errors at their places of the field, which is elsewhere as before.
pub record IsPut (at from : ℕ → ℕ) (first n : ℕ) (errors : List ℤ) (old xs : List ℕ) : Type 0 where
  pub long : length xs ≡ 3502
  pub in_range : HeldInRange xs
  pub there : (i : ℕ) → first ≤ i → i < n → error_held (get_or xs (at i) 0) ≡ get_or errors (from i) (pos 0)
  pub kept : (m : ℕ) → ((i : ℕ) → first ≤ i → i < n → m ≢ at i) → get_or xs m 0 ≡ get_or old m 0

pub none_put : (at from : ℕ → ℕ) (first : ℕ) (errors : List ℤ) (xs : List ℕ) → length xs ≡ 3502 → HeldInRange xs
    → IsPut at from first first errors xs xs
none_put at from first errors xs long fits = grind arith

pub put_more : (at from : ℕ → ℕ) (first n v : ℕ) (errors : List ℤ) (old xs : List ℕ) → at n < 3502 → first ≤ n
    → ((i : ℕ) → first ≤ i → i < n → at i ≢ at n)
    → EachInRange errors → v ≤ 4079 → error_held v ≡ to_z w16 (of_z w16 (get_or errors (from n) (pos 0)))
    → IsPut at from first n errors old xs → IsPut at from first (n + 1) errors old (set xs (at n) v)
put_more at from first n v errors old xs inside started apart each fits is f =
    let e : ℤ = get_or errors (from n) (pos 0) in
    let small : InRange e = each (from n) in
    let same : to_z w16 (of_z w16 e) ≡ e = omega (arith, ints) in
    let room : at n < length xs = omega (arith, f.long) in
    record {
      long = length-set xs (at n) v ∙ f.long;
      in_range = held_more xs (at n) v f.in_range fits;
      there = λ i h below. elim (cases_eq i n) [
        | inl last ↦ ap (λ m. error_held (get_or (set xs (at n) v) (at m) 0)) last ∙ ap error_held (get_or-set_same xs (at n) v 0 room) ∙ is
            ∙ same ∙ ap (λ m. get_or errors (from m) (pos 0)) (sym last)
        | inr not ↦ let before : i < n = omega arith in ap error_held (get_or-set_other xs (at n) (at i) v 0 (apart i h before))
            ∙ f.there i h before
      ];
      kept = λ m off. get_or-set_other xs (at n) m v 0 (off n started (omega arith)) ∙ f.kept m (λ i h below. off i h (omega arith));
    }

-- The first n errors of a list are those at their places of a field.
pub record IsTaken (at : ℕ → ℕ) (n len : ℕ) (xs : List ℕ) (out : List ℤ) : Type 0 where
  pub long : length out ≡ len
  pub there : (i : ℕ) → i < n → get_or out i (pos 0) ≡ error_held (get_or xs (at i) 0)

pub none_taken : (at : ℕ → ℕ) (len : ℕ) (xs : List ℕ) (out : List ℤ) → length out ≡ len → IsTaken at 0 len xs out
none_taken at len xs out long = record { long = long; there = λ i h. let no : ⊥ = omega arith in absurd no }

pub take_more : (at : ℕ → ℕ) (n m len : ℕ) (v : ℤ) (xs : List ℕ) (out : List ℤ) → m ≡ n + 1 → n < len → InRange v
    → v ≡ error_held (get_or xs (at n) 0)
    → IsTaken at n len xs out → IsTaken at m len xs (set out n (to_z w16 (of_z w16 v)))
take_more at n m len v xs out next room fits is f = grind (arith, cases_eq, get_or-set_other, get_or-set_same, ints, length-set)

held_in : (n : ℕ) → n ≤ 4079 → InRange (error_held n)
held_in n h = record { low = omega (arith, ints); high = omega (arith, ints) }

pub taken_in_range : (at : ℕ → ℕ) (n len : ℕ) (xs : List ℕ) (out : List ℤ) → HeldInRange xs → len ≤ n → IsTaken at n len xs out
    → EachInRange out
taken_in_range at n len xs out fits short f i = grind (arith, cases_lt, get_or_past, held_in, none_in)
