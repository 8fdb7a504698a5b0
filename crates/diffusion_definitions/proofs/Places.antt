-- The error at x - dx, y - dy gives to the pixel at x, y by the share at dx, dy.
use Rattle.std.proofs.Common.{ℕ, ℤ, pos, suc, zero, ◌≡◌, ◌<◌, ◌≤◌, ◌+◌, ◌-◌, ◌*◌, ◌+ℤ◌, ◌*ℤ◌, ◌∙◌, ap, refl, arith, List, [], ◌∷◌, length}
use Rattle.std.proofs.Common.{slice_index_or}
use Rattle.std.specs.Int.{int_div_euclid}
use Rattle.diffusion_definitions.specs.Diffusion.{Table, Plane, Errors, divisor, five, mirrored, value, value_at, weighted_from}

-- two ways to give the errors, the same at the first n places
weighted_same : (n i : ℕ) (shares : List ℕ) (f g : ℕ → ℤ) → i + length shares ≤ n → ((j : ℕ) → j < n → f j ≡ g j)
    → weighted_from i shares f ≡ weighted_from i shares g
weighted_same n i [] f g few same = refl
weighted_same n i (s ∷ shares) f g few same =
    ap (λ z. (pos s *ℤ z) +ℤ weighted_from (i + 1) shares f) (same i (omega arith))
    ∙ ap (λ z. (pos s *ℤ g i) +ℤ z) (weighted_same n (i + 1) shares f g (omega arith) same)

beside : (row : ℕ → ℤ) (x i : ℕ) → i < 2 → slice_index_or (row (x + 3) ∷ row (x + 2) ∷ []) i (pos 0) ≡ row (x + 3 - i)
beside row x zero h = ap row (omega arith)
beside row x (suc zero) h = ap row (omega arith)
beside row x (suc (suc i)) h = let no : ⊥ = omega arith in absurd no

above : (row : ℕ → ℤ) (x i : ℕ) → i < 5 → mirrored (five row (x + 2)) i ≡ row (x + 6 - i)
above row x zero h = ap row (omega arith)
above row x (suc zero) h = ap row (omega arith)
above row x (suc (suc zero)) h = ap row (omega arith)
above row x (suc (suc (suc zero))) h = ap row (omega arith)
above row x (suc (suc (suc (suc zero)))) h = ap row (omega arith)
above row x (suc (suc (suc (suc (suc i))))) h = let no : ⊥ = omega arith in absurd no

pub taken_from : (k : Table) (p : Plane) (e : Errors) (y x : ℕ) → length k.right ≤ 2 → length k.below ≤ 5 → length k.below2 ≤ 5
    → value_at k p e y x ≡ pos (16 * p.amount y x) +ℤ int_div_euclid
    (weighted_from 0 k.right (λ i. e (y + 2) (x + 3 - i))
    +ℤ (weighted_from 0 k.below (λ i. e (y + 1) (x + 6 - i)) +ℤ weighted_from 0 k.below2 (λ i. e y (x + 6 - i))))
    (pos (divisor k))
unfolding value
taken_from k p e y x few few1 few2 =
    let a = weighted_same 2 0 k.right _ _ (omega arith) (beside (e (y + 2)) x) in
    let b = weighted_same 5 0 k.below _ _ (omega arith) (above (e (y + 1)) x) in
    let c = weighted_same 5 0 k.below2 _ _ (omega arith) (above (e y) x) in
    cc
