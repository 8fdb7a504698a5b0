-- The errors of a plane from row s on are those of its rest below the errors of rows s-2 and s-1.
use Rattle.std.proofs.Common.{ℕ, ℤ, suc, zero, ◌≡◌, ◌+◌, ◌-◌, ◌<◌, ◌≤◌, ◌∙◌, cond, ltb, ap, refl, sym, arith, inl, inr}
use Rattle.std.proofs.lemmas.Bool.{cases_lt, lt-ltb, le-ltb}
use Rattle.diffusion_definitions.specs.Diffusion.{Table, Plane, Errors, errors, row_errors, row_width, rest, cut}

-- row y of the rest is row s + y of the plane
pub same_high : (p : Plane) (s y : ℕ) → ltb y (p.height - s) ≡ ltb (s + y) p.height
same_high p s y = elim (cases_lt (s + y) p.height) [
  | inl in_plane ↦ lt-ltb y (p.height - s) (omega arith) ∙ sym (lt-ltb (s + y) p.height in_plane)
  | inr below ↦ le-ltb y (p.height - s) (omega arith) ∙ sym (le-ltb (s + y) p.height below)
]

same_width : (p : Plane) (s y : ℕ) → row_width (rest s p) y ≡ row_width p (s + y)
same_width p s y = ap (λ b. cond b p.width 0) (same_high p s y)

-- rows of errors count from two above the plane: those of row s - 2 are at s
pub slab : (k : Table) (p : Plane) (top : Errors) (s : ℕ) (y : ℕ)
    → errors k (rest s p) (λ t. errors k p top (s + t)) y ≡ errors k p top (s + y)
unfolding errors
slab k p top s zero = refl
slab k p top s (suc zero) = refl
slab k p top s (suc (suc y)) =
    let e : Errors = errors k p top in
    let f : Errors = errors k (rest s p) (λ t. e (s + t)) in
    let moved : s + suc (suc y) ≡ suc (suc (s + y)) = omega arith in
    let one : s + suc y ≡ suc (s + y) = omega arith in
    let row : (ℕ → ℤ) → (ℕ → ℤ) → ℕ → ℕ → ℤ = λ a b w. row_errors k a b w (p.amount (s + y)) in
    ap (λ a. row a (f (suc y)) (row_width (rest s p) y)) (slab k p top s y)
    ∙ ap (λ b. row (e (s + y)) b (row_width (rest s p) y)) (slab k p top s (suc y) ∙ ap e one)
    ∙ ap (row (e (s + y)) (e (suc (s + y)))) (same_width p s y)
    ∙ sym (ap e moved)

-- the first rows do not depend on those below
pub first_rows : (k : Table) (p : Plane) (top : Errors) (h : ℕ) → h ≤ p.height → (y : ℕ) → y < h + 2
    → errors k (cut h p) top y ≡ errors k p top y
unfolding errors
first_rows k p top h low zero few = refl
first_rows k p top h low (suc zero) few = refl
first_rows k p top h low (suc (suc y)) few =
    let e : Errors = errors k p top in
    let f : Errors = errors k (cut h p) top in
    let inside : y < h = omega arith in
    let row : (ℕ → ℤ) → (ℕ → ℤ) → ℕ → ℕ → ℤ = λ a b w. row_errors k a b w (p.amount y) in
    ap (λ a. row a (f (suc y)) (row_width (cut h p) y)) (first_rows k p top h low y (omega arith))
    ∙ ap (λ b. row (e y) b (row_width (cut h p) y)) (first_rows k p top h low (suc y) (omega arith))
    ∙ ap (λ b. row (e y) (e (suc y)) (cond b p.width 0)) (lt-ltb y h inside ∙ sym (lt-ltb y p.height (omega arith)))
