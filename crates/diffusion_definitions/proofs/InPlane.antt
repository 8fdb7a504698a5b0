-- Errors stay in range: those of a row below two rows in range are, and so are those of a plane below such a top.
use Rattle.std.proofs.Common.{ℕ, ℤ, suc, zero, ◌<◌, ◌≤◌, ◌+◌}
use Rattle.std.proofs.lemmas.Bool.{cond_both}
use Rattle.std.specs.Prelude.{nat_lt}
use Rattle.diffusion_definitions.specs.Diffusion.{Table, Plane, Errors, divisor, errors, row_errors, row_width, five, InRange, EachInRange}
use Rattle.diffusion_definitions.specs.Diffusion.{HasAmounts, TopInRange}
use Rattle.diffusion_definitions.proofs.Ranges.{five_in, none_in, pixel_in, two_in}

places_in : (row : ℕ → ℤ) (n : ℕ) → ((m : ℕ) → InRange (row m)) → EachInRange (five row n)
places_in row n h = five_in _ _ _ _ _ (h n) (h (n + 1)) (h (n + 2)) (h (n + 3)) (h (n + 4))

row_in : (k : Table) (up2 up1 : ℕ → ℤ) (width : ℕ) (amount : ℕ → ℕ) → 0 < divisor k
    → ((n : ℕ) → InRange (up2 n)) → ((n : ℕ) → InRange (up1 n)) → ((x : ℕ) → amount x ≤ 255)
    → (n : ℕ) → InRange (row_errors k up2 up1 width amount n)
unfolding row_errors
row_in k up2 up1 width amount some h2 h1 few zero = none_in
row_in k up2 up1 width amount some h2 h1 few (suc zero) = none_in
row_in k up2 up1 width amount some h2 h1 few (suc (suc zero)) = none_in
row_in k up2 up1 width amount some h2 h1 few (suc (suc (suc zero))) = none_in
row_in k up2 up1 width amount some h2 h1 few (suc (suc (suc (suc x)))) =
    let left = row_in k up2 up1 width amount some h2 h1 few (suc (suc (suc x))) in
    let left2 = row_in k up2 up1 width amount some h2 h1 few (suc (suc x)) in
    cond_both (nat_lt x width) _ _ InRange
    (λ _. pixel_in k (amount x) _ _ _ some (few x) (two_in _ _ left left2) (places_in up1 (x + 2) h1) (places_in up2 (x + 2) h2))
    (λ _. none_in)

pub errors_in : (k : Table) (p : Plane) (top : Errors) → 0 < divisor k → HasAmounts p → TopInRange top → (y n : ℕ)
    → InRange (errors k p top y n)
unfolding errors
errors_in k p top some few h zero n = h 0 n
errors_in k p top some few h (suc zero) n = h 1 n
errors_in k p top some few h (suc (suc y)) n =
    row_in k (errors k p top y) (errors k p top (suc y)) (row_width p y) (p.amount y) some
    (errors_in k p top some few h y) (errors_in k p top some few h (suc y)) (few y) n
