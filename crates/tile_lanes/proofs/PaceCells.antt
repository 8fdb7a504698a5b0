-- Blocks of errors whose places in a field are those of rows that go in step.
use Rattle.std.proofs.lemmas.Grind.{common_steps}
use Rattle.std.proofs.Common.{ℕ, ℤ, pos, ◌≡◌, ◌≢◌, ◌+◌, ◌*◌, ◌/◌, ◌<◌, ◌≤◌, ◌∙◌, ap, sym, subst, arith}
use Rattle.std.proofs.Common.{List, get_or, set, to_z, of_z, w16}
use Rattle.diffusion_definitions.specs.Diffusion.{EachInRange, InRange}
use Rattle.tile_lanes.specs.Held.{error_held}
use Rattle.tile_lanes.specs.Paces.{cell_of, delay_of, end_of, first_group}
use Rattle.tile_lanes.specs.declared.lanes.pace.Pace.{Pace}
use Rattle.tile_lanes.specs.declared.lanes.pace.Pace.TheVariants.{Level, Lagging}
use Rattle.tile_lanes.proofs.HeldBlocks.{IsPut, IsTaken, put_more, take_more}
use Rattle.tile_lanes.proofs.Paces.{cell_place, cell_row}

pub cells_same : (pace : Pace) (p l q m : ℕ) → p ≡ q → l ≡ m → cell_of pace p l ≡ cell_of pace q m
cells_same pace p l q m row place = ap (λ r. cell_of pace r l) row ∙ ap (cell_of pace q) place

pub cells_apart : (pace : Pace) (p l q m : ℕ) → p < 34 → q < 34 → (p ≡ q → l ≢ m) → cell_of pace p l ≢ cell_of pace q m
cells_apart pace p l q m a b apart same = apart (cell_row pace p l q m a b same) (cell_place pace p l q m a b same)

-- the errors of all groups are done at the end
pub cell_done : (pace : Pace) (p l : ℕ) → p < 34 → l < 70 → l + first_group pace p < end_of pace
cell_done Level p l row place = omega arith
cell_done Lagging p l row place = omega arith

-- and so are all sixteens of dots
pub dots_end : (pace : Pace) (r o : ℕ) → r < 32 → o < 64 → 16 * (o / 16) + delay_of pace r + 24 ≤ end_of pace
dots_end Level r o row small = omega arith
dots_end Lagging r o row small = omega arith

-- One more error is put, at row p and place l.
pub put_cell : (pace : Pace) (row place : ℕ → ℕ) (n next p l : ℕ) {at : ℕ} (v : ℕ) {errors : List ℤ} {old : List ℕ} (xs : List ℕ)
    → n + 1 ≡ next → row n ≡ p → place n ≡ l → at ≡ cell_of pace p l → at < 3502
    → ((i : ℕ) → i ≤ n → row i < 34) → ((i : ℕ) → i < n → row i ≡ row n → place i ≢ place n)
    → EachInRange errors → v ≤ 4079 → error_held v ≡ to_z w16 (of_z w16 (get_or errors n (pos 0)))
    → IsPut (λ i. cell_of pace (row i) (place i)) (λ i. i) 0 n errors old xs
    → IsPut (λ i. cell_of pace (row i) (place i)) (λ i. i) 0 next errors old (set xs at v)
put_cell pace row place n next p l {at} v {errors} {old} xs is_next is_row is_place is_at inside few apart each fits is f =
    let cell : ℕ → ℕ = λ i. cell_of pace (row i) (place i) in
    let here : cell n ≡ at = cells_same pace (row n) (place n) p l is_row is_place ∙ sym is_at in
    let more : IsPut cell (λ i. i) 0 (n + 1) errors old (set xs (cell n) v) =
    put_more cell (λ i. i) 0 n v errors old xs (subst (λ m. m < 3502) (sym here) inside) (omega arith)
    (λ i from below. cells_apart pace (row i) (place i) (row n) (place n) (few i (omega arith)) (few n (omega arith))
    (apart i below))
    each fits is f in
    subst (λ m. IsPut cell (λ i. i) 0 m errors old (set xs at v)) is_next
    (subst (λ m. IsPut cell (λ i. i) 0 (n + 1) errors old (set xs m v)) here more)

-- One more is taken.
pub take_cell : (pace : Pace) (row place : ℕ → ℕ) (n next p l at len : ℕ) (v : ℤ) (xs : List ℕ) (out : List ℤ)
    → next ≡ n + 1 → row n ≡ p → place n ≡ l → at ≡ cell_of pace p l
    → n < len → InRange v → v ≡ error_held (get_or xs at 0)
    → IsTaken (λ i. cell_of pace (row i) (place i)) n len xs out
    → IsTaken (λ i. cell_of pace (row i) (place i)) next len xs (set out n (to_z w16 (of_z w16 v)))
take_cell pace row place n next p l at len v xs out is_next is_row is_place is_at room fits is f = grind (arith, common_steps, cells_same, take_more)
