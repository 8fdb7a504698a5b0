-- How many of some words pass a test.
use Rattle.std.proofs.Common.{◌≡◌, ℕ, zero, suc, ◌≤◌, ◌+◌, Bool, true, false, cond, List, [], ◌∷◌, length, take}
use Rattle.std.proofs.Common.{Some, slice_get, refl, ap, subst, ◌∙◌, arith}
use Rattle.std.specs.List.{count_by, filter}
use Rattle.std.proofs.lemmas.List.{length-take-le}
use Rattle.std.proofs.lemmas.List.Sums.{count_by-le-length, count_by_more_no, count_by_more_yes, sum_by-cons}
use Rattle.std.proofs.lemmas.Option.{get_or_from_slice_get, slice_get_within}

pub one_passes : {X : Type 0} (p : X → Bool) (xs : List X) (k : ℕ) (x : X) → slice_get xs k ≡ Some x → p x ≡ true
    → count_by p (take (k + 1) xs) ≡ count_by p (take k xs) + 1
one_passes p xs k x here passes =
    count_by_more_yes p xs k x (slice_get_within xs k x here) (ap p (get_or_from_slice_get xs k x x here) ∙ passes)

pub one_fails : {X : Type 0} (p : X → Bool) (xs : List X) (k : ℕ) (x : X) → slice_get xs k ≡ Some x → p x ≡ false
    → count_by p (take (k + 1) xs) ≡ count_by p (take k xs)
one_fails p xs k x here fails =
    count_by_more_no p xs k x (slice_get_within xs k x here) (ap p (get_or_from_slice_get xs k x x here) ∙ fails)

pub few_pass : {X : Type 0} (p : X → Bool) (xs : List X) (k : ℕ) → k ≤ length xs → count_by p (take k xs) ≤ k
few_pass p xs k within = omega (arith, count_by-le-length p (take k xs), length-take-le k xs within)

-- an element that passes, among those that do
pub kept_at : {X : Type 0} (p : X → Bool) (xs : List X) (k : ℕ) (x : X) → slice_get xs k ≡ Some x → p x ≡ true
    → slice_get (filter p xs) (count_by p (take k xs)) ≡ Some x
kept_at p [] k x here passes = cc
kept_at p (y ∷ xs) zero x here passes =
    let same : y ≡ x = cc in
    rw (same, passes) refl
kept_at p (y ∷ xs) (suc k) x here passes =
    ap (slice_get (filter p (y ∷ xs))) (sum_by-cons (λ z. cond (p z) 1 0) y (take k xs))
    ∙ by_test (p y) (count_by p (take k xs)) (kept_at p xs k x here passes) where
      by_test : (test : Bool) (n : ℕ) → slice_get (filter p xs) n ≡ Some x
          → slice_get (cond test (y ∷ filter p xs) (filter p xs)) (cond test 1 0 + n) ≡ Some x
      by_test true n later =
          let next : suc n ≡ 1 + n = omega arith in
          subst (λ (m : ℕ). slice_get (y ∷ filter p xs) m ≡ Some x) next later
      by_test false n later =
          let same : n ≡ 0 + n = omega arith in
          subst (λ (m : ℕ). slice_get (filter p xs) m ≡ Some x) same later
