-- Where rows are level, the fifth error of the row above counts for nothing.
use Rattle.std.proofs.Common.{ℕ, ℤ, pos, zero, suc, ◌≡◌, ◌+◌, ◌-◌, ◌*◌, ◌<◌, ◌+ℤ◌, List, [], ◌∷◌, ap, refl, arith, cond, inl, inr, sym, ◌∙◌}
use Rattle.std.proofs.Common.{◌==◌, get_or, slice_index}
use Rattle.std.proofs.lemmas.Bool.{cases_Bool, eqb-true}
use Rattle.std.specs.Int.{int_div_euclid}
use Rattle.diffusion_definitions.specs.Diffusion.{Table, divisor, mirrored, value, weighted_from}
use Rattle.diffusion_kernel.specs.Tables.{table_of}
use Rattle.diffusion_kernel.specs.declared.tables.Kernel.{Kernel}
use Rattle.tile_edges.proofs.Kernels.{weighted-agree}
use Rattle.tile_lanes.specs.Paces.{pace_of}
use Rattle.tile_lanes.specs.declared.lanes.pace.Pace.TheVariants.{Level, Lagging}

pub level_apart : (kernel : Kernel) → pace_of kernel ≡ Level → slice_index (table_of kernel).below 0 ≡ 0
level_apart kernel is = elim (cases_Bool (slice_index (table_of kernel).below 0 == 0)) [
  | inl none ↦ eqb-true (slice_index (table_of kernel).below 0) 0 none
  | inr some ↦ absurd (apart (sym (ap (λ b. cond b Level Lagging) some) ∙ is))
]
  where
    apart : Lagging ≡ Level → ⊥
    apart same = cc

four_same : (a b c d x y : ℤ) (n : ℕ) → n < 4 → get_or (a ∷ b ∷ c ∷ d ∷ x ∷ []) n (pos 0) ≡ get_or (a ∷ b ∷ c ∷ d ∷ y ∷ []) n (pos 0)
four_same a b c d x y zero low = refl
four_same a b c d x y (suc zero) low = refl
four_same a b c d x y (suc (suc zero)) low = refl
four_same a b c d x y (suc (suc (suc zero))) low = refl
four_same a b c d x y (suc (suc (suc (suc n)))) low = absurd (omega arith)

given_later : (shares : List ℕ) (i : ℕ) → slice_index shares 0 ≡ 0 → 0 < slice_index shares i → 4 - (0 + i) < 4
given_later shares zero none some = absurd (omega (arith, none, some))
given_later shares (suc i) none some = omega arith

pub four_count : (k : Table) (amount : ℕ) (own far : List ℤ) (a b c d x y : ℤ) → slice_index k.below 0 ≡ 0
    → value k amount own (a ∷ b ∷ c ∷ d ∷ x ∷ []) far ≡ value k amount own (a ∷ b ∷ c ∷ d ∷ y ∷ []) far
unfolding value
four_count k amount own far a b c d x y none =
    ap (λ z. pos (16 * amount) +ℤ int_div_euclid (weighted_from 0 k.right (λ i. get_or own i (pos 0))
    +ℤ (z +ℤ weighted_from 0 k.below2 (mirrored far))) (pos (divisor k)))
    (weighted-agree 0 k.below (mirrored (a ∷ b ∷ c ∷ d ∷ x ∷ [])) (mirrored (a ∷ b ∷ c ∷ d ∷ y ∷ []))
    (λ i some. four_same a b c d x y (4 - (0 + i)) (given_later k.below i none some)))
