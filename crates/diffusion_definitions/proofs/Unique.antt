-- Two tables that solve the rule below the same top are the same.
use Rattle.std.proofs.Common.{ℕ, ℤ, suc, zero, ◌≡◌, ◌+◌, ◌∙◌, ap, sym, arith, List, [], ◌∷◌, inl, inr}
use Rattle.std.proofs.lemmas.Bool.{cases_lt}
use Rattle.diffusion_definitions.specs.Diffusion.{Table, Plane, Errors, five, value, value_at, error_of, Solves}

five_same : (f g : ℕ → ℤ) (n : ℕ) → ((m : ℕ) → f m ≡ g m) → five f n ≡ five g n
five_same f g n h =
    let h0 = h n in let h1 = h (n + 1) in let h2 = h (n + 2) in let h3 = h (n + 3) in let h4 = h (n + 4) in cc

pub value_same : (k : Table) (p : Plane) (e f : Errors) (y x : ℕ) → e (y + 2) (x + 3) ≡ f (y + 2) (x + 3)
    → e (y + 2) (x + 2) ≡ f (y + 2) (x + 2)
    → ((n : ℕ) → e (y + 1) n ≡ f (y + 1) n) → ((n : ℕ) → e y n ≡ f y n) → value_at k p e y x ≡ value_at k p f y x
value_same k p e f y x h1 h2 up1 up2 =
    let v : ℤ → ℤ → List ℤ → List ℤ → ℤ = λ a b u w. value k (p.amount y x) (a ∷ b ∷ []) u w in
    ap (λ a. v a (e (y + 2) (x + 2)) (five (e (y + 1)) (x + 2)) (five (e y) (x + 2))) h1
    ∙ ap (λ b. v (f (y + 2) (x + 3)) b (five (e (y + 1)) (x + 2)) (five (e y) (x + 2))) h2
    ∙ ap (λ u. v (f (y + 2) (x + 3)) (f (y + 2) (x + 2)) u (five (e y) (x + 2))) (five_same (e (y + 1)) (f (y + 1)) (x + 2) up1)
    ∙ ap (v (f (y + 2) (x + 3)) (f (y + 2) (x + 2)) (five (f (y + 1)) (x + 2))) (five_same (e y) (f y) (x + 2) up2)

row_same : (k : Table) (p : Plane) (e f : Errors) (y : ℕ) → Solves k p e → Solves k p f
    → ((n : ℕ) → e (y + 1) n ≡ f (y + 1) n) → ((n : ℕ) → e y n ≡ f y n) → (n : ℕ) → e (y + 2) n ≡ f (y + 2) n
row_same k p e f y s t up1 up2 zero = s.left y 0 (omega arith) ∙ sym (t.left y 0 (omega arith))
row_same k p e f y s t up1 up2 (suc zero) = s.left y 1 (omega arith) ∙ sym (t.left y 1 (omega arith))
row_same k p e f y s t up1 up2 (suc (suc zero)) = s.left y 2 (omega arith) ∙ sym (t.left y 2 (omega arith))
row_same k p e f y s t up1 up2 (suc (suc (suc zero))) = s.left y 3 (omega arith) ∙ sym (t.left y 3 (omega arith))
row_same k p e f y s t up1 up2 (suc (suc (suc (suc x)))) =
    let four : suc (suc (suc (suc x))) ≡ x + 4 = omega arith in
    let three : x + 3 ≡ suc (suc (suc x)) = omega arith in
    let two : x + 2 ≡ suc (suc x) = omega arith in
    let h3 : e (y + 2) (x + 3) ≡ f (y + 2) (x + 3) = ap (e (y + 2)) three ∙ row_same k p e f y s t up1 up2 (suc (suc (suc x)))
    ∙ sym (ap (f (y + 2)) three) in
    let h2 : e (y + 2) (x + 2) ≡ f (y + 2) (x + 2) = ap (e (y + 2)) two ∙ row_same k p e f y s t up1 up2 (suc (suc x))
    ∙ sym (ap (f (y + 2)) two) in
    ap (e (y + 2)) four ∙ elim (cases_lt y p.height) [
      | inl high ↦ elim (cases_lt x p.width) [
        | inl wide ↦ s.pixel y x high wide ∙ ap error_of (value_same k p e f y x h3 h2 up1 up2) ∙ sym (t.pixel y x high wide)
        | inr far ↦ s.right y x far ∙ sym (t.right y x far)
      ]
      | inr below ↦ s.below y (x + 4) below ∙ sym (t.below y (x + 4) below)
    ] ∙ sym (ap (f (y + 2)) four)

pub unique : (k : Table) (p : Plane) (e f : Errors) → Solves k p e → Solves k p f
    → ((n : ℕ) → e 0 n ≡ f 0 n) → ((n : ℕ) → e 1 n ≡ f 1 n) → (y n : ℕ) → e y n ≡ f y n
unique k p e f s t top0 top1 zero n = top0 n
unique k p e f s t top0 top1 (suc zero) n = top1 n
unique k p e f s t top0 top1 (suc (suc y)) n =
    let two : suc (suc y) ≡ y + 2 = omega arith in
    let one : y + 1 ≡ suc y = omega arith in
    ap (λ m. e m n) two ∙ row_same k p e f y s t
    (λ m. ap (λ q. e q m) one ∙ unique k p e f s t top0 top1 (suc y) m ∙ sym (ap (λ q. f q m) one))
    (unique k p e f s t top0 top1 y) n ∙ sym (ap (λ m. f m n) two)
