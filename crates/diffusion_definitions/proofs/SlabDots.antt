-- The dots of a part of a plane, where its errors are the plane's.
use Rattle.std.proofs.Common.{ℕ, ℤ, ◌≡◌, ◌+◌, ◌<◌, ◌≤◌, ◌∙◌, ap, sym, arith, ltb, [], ◌∷◌, ◌&&◌}
use Rattle.std.proofs.lemmas.Bool.{lt-ltb}
use Rattle.diffusion_definitions.specs.Diffusion.{Table, Plane, Errors, five, value, value_at, is_dot, inside, on, rest, cut}
use Rattle.diffusion_definitions.proofs.Slab.{same_high}
use Rattle.diffusion_definitions.proofs.Unique.{value_same}

pub slab_dots : (k : Table) (p : Plane) (e f : Errors) (s : ℕ) → ((y n : ℕ) → f y n ≡ e (s + y) n)
    → (y x : ℕ) → on k (rest s p) f y x ≡ on k p e (s + y) x
slab_dots k p e f s same y x =
    let g : Errors = λ m n. e (s + m) n in
    let two : s + (y + 2) ≡ s + y + 2 = omega arith in
    let one : s + (y + 1) ≡ s + y + 1 = omega arith in
    let v : ℕ → ℕ → ℤ = λ a b. value k (p.amount (s + y) x) (e a (x + 3) ∷ e a (x + 2) ∷ []) (five (e b) (x + 2))
    (five (e (s + y)) (x + 2)) in
    let values : value_at k (rest s p) f y x ≡ value_at k p e (s + y) x =
    value_same k (rest s p) f g y x (same (y + 2) (x + 3)) (same (y + 2) (x + 2)) (same (y + 1)) (same y)
    ∙ ap (λ a. v a (s + (y + 1))) two ∙ ap (v (s + y + 2)) one in
    ap (λ b. (ltb x p.width && b) && is_dot (value_at k (rest s p) f y x)) (same_high p s y)
    ∙ ap (λ w. inside p (s + y) x && is_dot w) values

pub first_dots : (k : Table) (p : Plane) (e f : Errors) (h : ℕ) → h ≤ p.height → ((y n : ℕ) → y < h + 2 → f y n ≡ e y n)
    → (y x : ℕ) → y < h → on k (cut h p) f y x ≡ on k p e y x
first_dots k p e f h low same y x above =
    let values : value_at k (cut h p) f y x ≡ value_at k p e y x =
    value_same k (cut h p) f e y x (same (y + 2) (x + 3) (omega arith)) (same (y + 2) (x + 2) (omega arith))
    (λ n. same (y + 1) n (omega arith)) (λ n. same y n (omega arith)) in
    ap (λ b. (ltb x p.width && b) && is_dot (value_at k (cut h p) f y x)) (lt-ltb y h above ∙ sym (lt-ltb y p.height (omega arith)))
    ∙ ap (λ w. inside p y x && is_dot w) values
