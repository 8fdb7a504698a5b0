-- The errors of the definition solve the rule, and they are its one solution.
use Rattle.std.proofs.Common.{ℕ, ℤ, pos, suc, zero, ◌≡◌, ◌+◌, ◌<◌, ◌≤◌, ◌∙◌, true, false, cond, ltb, ap, refl, sym, arith, [], ◌∷◌}
use Rattle.std.proofs.lemmas.Bool.{lt-ltb, le-ltb}
use Rattle.diffusion_definitions.specs.Diffusion.{Table, Plane, Errors, errors, row_errors, row_width, five, value, error_of, Solves}

width_in : (p : Plane) (y : ℕ) → y < p.height → row_width p y ≡ p.width
width_in p y h = ap (λ b. cond b p.width 0) (lt-ltb y p.height h)

width_below : (p : Plane) (y : ℕ) → p.height ≤ y → row_width p y ≡ 0
width_below p y h = ap (λ b. cond b p.width 0) (le-ltb y p.height h)

row_left : (k : Table) (up2 up1 : ℕ → ℤ) (w : ℕ) (a : ℕ → ℕ) (n : ℕ) → n < 4 → row_errors k up2 up1 w a n ≡ pos 0
unfolding row_errors
row_left k up2 up1 w a zero h = refl
row_left k up2 up1 w a (suc zero) h = refl
row_left k up2 up1 w a (suc (suc zero)) h = refl
row_left k up2 up1 w a (suc (suc (suc zero))) h = refl
row_left k up2 up1 w a (suc (suc (suc (suc n)))) h = let no : ⊥ = omega arith in absurd no

row_right : (k : Table) (up2 up1 : ℕ → ℤ) (w : ℕ) (a : ℕ → ℕ) (x : ℕ) → w ≤ x → row_errors k up2 up1 w a (x + 4) ≡ pos 0
unfolding row_errors
row_right k up2 up1 w a x h =
    let four : x + 4 ≡ suc (suc (suc (suc x))) = omega arith in
    let row : ℕ → ℤ = row_errors k up2 up1 w a in
    let v : ℤ = error_of (value k (a x) (row (suc (suc (suc x))) ∷ row (suc (suc x)) ∷ []) (five up1 (x + 2)) (five up2 (x + 2))) in
    ap row four ∙ ap (λ b. cond b v (pos 0)) (le-ltb x w h)

row_none : (k : Table) (up2 up1 : ℕ → ℤ) (w : ℕ) (a : ℕ → ℕ) (n : ℕ) → w ≡ 0 → row_errors k up2 up1 w a n ≡ pos 0
unfolding row_errors
row_none k up2 up1 w a zero h = refl
row_none k up2 up1 w a (suc zero) h = refl
row_none k up2 up1 w a (suc (suc zero)) h = refl
row_none k up2 up1 w a (suc (suc (suc zero))) h = refl
row_none k up2 up1 w a (suc (suc (suc (suc x)))) h =
    let row : ℕ → ℤ = row_errors k up2 up1 w a in
    let v : ℤ = error_of (value k (a x) (row (suc (suc (suc x))) ∷ row (suc (suc x)) ∷ []) (five up1 (x + 2)) (five up2 (x + 2))) in
    ap (λ b. cond b v (pos 0)) (le-ltb x w (omega arith))

row_pixel : (k : Table) (up2 up1 : ℕ → ℤ) (w : ℕ) (a : ℕ → ℕ) (x : ℕ) → x < w
    → row_errors k up2 up1 w a (x + 4)
    ≡ error_of (value k (a x) (row_errors k up2 up1 w a (x + 3) ∷ row_errors k up2 up1 w a (x + 2) ∷ []) (five up1 (x + 2))
    (five up2 (x + 2)))
unfolding row_errors
row_pixel k up2 up1 w a x h =
    let four : x + 4 ≡ suc (suc (suc (suc x))) = omega arith in
    let three : suc (suc (suc x)) ≡ x + 3 = omega arith in
    let two : suc (suc x) ≡ x + 2 = omega arith in
    let row : ℕ → ℤ = row_errors k up2 up1 w a in
    let at : ℕ → ℕ → ℤ = λ m n. error_of (value k (a x) (row m ∷ row n ∷ []) (five up1 (x + 2)) (five up2 (x + 2))) in
    ap row four ∙ ap (λ b. cond b (at (suc (suc (suc x))) (suc (suc x))) (pos 0)) (lt-ltb x w h)
    ∙ ap (λ m. at m (suc (suc x))) three ∙ ap (at (x + 3)) two

-- A row of the errors is that of its amounts below the two rows above.
row_of : (k : Table) (p : Plane) (top : Errors) (y : ℕ)
    → errors k p top (y + 2) ≡ row_errors k (errors k p top y) (errors k p top (y + 1)) (row_width p y) (p.amount y)
unfolding errors
row_of k p top y =
    let two : y + 2 ≡ suc (suc y) = omega arith in
    let one : suc y ≡ y + 1 = omega arith in
    ap (errors k p top) two ∙ ap (λ m. row_errors k (errors k p top y) (errors k p top m) (row_width p y) (p.amount y)) one

width_most : (p : Plane) (y x : ℕ) → p.width ≤ x → row_width p y ≤ x
width_most p y x h = elim (ltb y p.height) as (λ b. cond b p.width 0 ≤ x) [ true ↦ h | false ↦ omega arith ]

at_place : (f g : ℕ → ℤ) (n : ℕ) → f ≡ g → f n ≡ g n
at_place f g n h = ap (λ (r : ℕ → ℤ). r n) h

pub errors_solve : (k : Table) (p : Plane) (top : Errors) → Solves k p (errors k p top)
errors_solve k p top =
    let e : Errors = errors k p top in
    record {
      pixel = λ y x inside wide.
          let row : ℕ → ℕ → ℤ = λ w. row_errors k (e y) (e (y + 1)) w (p.amount y) in
          let same : e (y + 2) ≡ row p.width = row_of k p top y ∙ ap row (width_in p y inside) in
          let at : (ℕ → ℤ) → ℤ = λ r. error_of
          (value k (p.amount y x) (r (x + 3) ∷ r (x + 2) ∷ []) (five (e (y + 1)) (x + 2)) (five (e y) (x + 2))) in
          at_place _ _ (x + 4) same ∙ row_pixel k (e y) (e (y + 1)) p.width (p.amount y) x wide ∙ ap at (sym same);
      left = λ y n few. at_place _ _ n (row_of k p top y) ∙ row_left k (e y) (e (y + 1)) (row_width p y) (p.amount y) n few;
      right = λ y x far.
          let small : row_width p y ≤ x = width_most p y x far in
          at_place _ _ (x + 4) (row_of k p top y) ∙ row_right k (e y) (e (y + 1)) (row_width p y) (p.amount y) x small;
      below = λ y n far. at_place _ _ n (row_of k p top y)
          ∙ row_none k (e y) (e (y + 1)) (row_width p y) (p.amount y) n (width_below p y far);
    }

pub errors_top : (k : Table) (p : Plane) (top : Errors) → (n : ℕ) → (errors k p top 0 n ≡ top 0 n) × (errors k p top 1 n ≡ top 1 n)
unfolding errors
errors_top k p top n = (refl, refl)
