-- The sum of the meters so far, and one meter more.
use Rattle.std.proofs.Common.{◌≡◌, ℕ, ◌+◌, ◌<◌, List, ◌∷◌, Option, Some, None, IsNone, refl, map, length, drop, get_or, ap, sym, ◌∙◌, arith}
use Rattle.std.proofs.lemmas.List.{drop_more, length-map}
use Rattle.printer_definitions.specs.declared.inks.InkCounts.{InkCounts}
use Rattle.ink_meter.specs.Accounts.{Account, Fits, settled, together}
use Rattle.ink_meter.proofs.Places.{value_at}

pub record SumSoFar (all left sum : InkCounts) : Type 0 where
  pub k : sum.k + left.k ≡ all.k
  pub c : sum.c + left.c ≡ all.c
  pub m : sum.m + left.m ≡ all.m
  pub y : sum.y + left.y ≡ all.y

pub settled_next : {B : Type 0} (f : B → Account) (xs : List B) (i : ℕ) (x : B) → i < length xs → x ≡ get_or xs i x
    → settled (drop i (map f xs)) ≡ together (f x).totals (settled (drop (i + 1) (map f xs)))
settled_next f xs i x h is =
    ap settled (drop_more (map f xs) i (f x) (omega (arith, length-map xs f)))
    ∙ ap (λ (a : Account). settled (a ∷ drop (i + 1) (map f xs))) (sym (value_at f xs i x h is))

pub sum_fits : (all left rest sum total : InkCounts)
    → left ≡ together total rest → SumSoFar all left sum → Fits all → Fits (together sum total)
sum_fits all left rest sum total next so_far fits = record {
  k = omega (arith, fits.k, so_far.k, ap (λ (n : InkCounts). n.k) next);
  c = omega (arith, fits.c, so_far.c, ap (λ (n : InkCounts). n.c) next);
  m = omega (arith, fits.m, so_far.m, ap (λ (n : InkCounts). n.m) next);
  y = omega (arith, fits.y, so_far.y, ap (λ (n : InkCounts). n.y) next);
}

pub sum_more : (all left rest sum total : InkCounts)
    → left ≡ together total rest → SumSoFar all left sum → SumSoFar all rest (together sum total)
sum_more all left rest sum total next so_far = record {
  k = omega (arith, so_far.k, ap (λ (n : InkCounts). n.k) next);
  c = omega (arith, so_far.c, ap (λ (n : InkCounts). n.c) next);
  m = omega (arith, so_far.m, ap (λ (n : InkCounts). n.m) next);
  y = omega (arith, so_far.y, ap (λ (n : InkCounts). n.y) next);
}

-- a sum that does not exist does not fit
pub unsummed : {T : Type 0} {F G : Type 0} (sum : Option T) → ((x : T) → sum ≡ Some x → ⊥) → (IsNone sum → F → ⊥) → F → G
unsummed None never none fits = absurd (none refl fits)
unsummed (Some x) never none fits = absurd (never x refl)
