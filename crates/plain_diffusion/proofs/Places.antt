-- Which errors the definition has above and beside a window, and which pixels are reached.
use Rattle.std.proofs.Common.{◌≡◌, ◌⊎◌, ℕ, ℤ, pos, zero, suc, ◌+◌, ◌-◌, ◌*◌, ◌<◌, ◌≤◌, ◌+ℤ◌, ◌≤ℤ◌, ◌&&◌, Bool, false}
use Rattle.std.proofs.Common.{inl, inr, sym, ◌∙◌, ap, arith}
use Rattle.std.proofs.lemmas.Bool.{cases_lt, le-ltb, lt-ltb}
use Rattle.std.proofs.lemmas.Int.{ints}
use Rattle.std.specs.Prelude.{nat_lt}
use Rattle.diffusion_definitions.specs.Diffusion.{is_dot, on, value_at}
use Rattle.diffusion_kernel.specs.Tables.{table_of}
use Rattle.diffusion_definitions.proofs.Solve.{errors_solve, errors_top}
use Rattle.plain_diffusion.specs.Fills.{above_of}
use Rattle.plain_diffusion.specs.Known.{IsOutside, errors_of, plane_of}
use Rattle.plain_diffusion.specs.declared.fills.InkWindow.{InkWindow}

pub row_more : (width y : ℕ) → (y + 1) * width ≡ y * width + width
row_more width y = grind (arith)

-- above the window
pub top_is : (w : InkWindow) (t n : ℕ) → t < 2 → errors_of w t n ≡ above_of w.above w.width t n
top_is w zero n two = (errors_top (table_of w.kernel) (plane_of w) (λ t n. above_of w.above w.width t n) n).0
top_is w (suc zero) n two = (errors_top (table_of w.kernel) (plane_of w) (λ t n. above_of w.above w.width t n) n).1
top_is w (suc (suc t)) n two = absurd (omega arith)

-- left of it
pub left_is : (w : InkWindow) (t n : ℕ) → 2 ≤ t → n < 4 → errors_of w t n ≡ pos 0
left_is w t n two few =
    let row : t ≡ (t - 2) + 2 = omega arith in
    let solves = errors_solve (table_of w.kernel) (plane_of w) (λ t n. above_of w.above w.width t n) in
    ap (λ m. errors_of w m n) row ∙ solves.left (t - 2) n few

-- right of it
pub right_is : (w : InkWindow) (y x : ℕ) → w.width ≤ x → errors_of w (y + 2) (x + 4) ≡ pos 0
right_is w y x far = (errors_solve (table_of w.kernel) (plane_of w) (λ t n. above_of w.above w.width t n)).right y x far

-- below it
pub below_is : (w : InkWindow) (y n : ℕ) → w.height ≤ y → errors_of w (y + 2) n ≡ pos 0
below_is w y n far = (errors_solve (table_of w.kernel) (plane_of w) (λ t n. above_of w.above w.width t n)).below y n far

-- the same error by other numbers
pub moved : (w : InkWindow) (t t' n n' : ℕ) → t ≡ t' → n ≡ n' → errors_of w t n ≡ errors_of w t' n'
moved w t t' n n' rows columns = ap (λ m. errors_of w m n) rows ∙ ap (λ m. errors_of w t' m) columns

-- no pixel is there, and it is not above the window
pub outside_is : (w : InkWindow) (x y : ℤ) (t n : ℕ) → IsOutside w x y → pos 0 ≤ℤ y → pos t ≡ y +ℤ pos 2 → pos n ≡ x +ℤ pos 4
    → errors_of w t n ≡ pos 0
outside_is w x y t n outside under row column =
    let two : 2 ≤ t = omega (arith, ints) in
    elim (cases_lt n 4) [
      | inl few ↦ left_is w t n two few
      | inr far ↦
          moved w t (t - 2 + 2) n (n - 4 + 4) (omega arith) (omega arith)
          ∙ elim (outside (n - 4) (t - 2) (omega (arith, ints)) (omega (arith, ints))) [
            | inl right ↦ right_is w (t - 2) (n - 4) right
            | inr below ↦ below_is w (t - 2) (n - 4 + 4) below
          ]
    ]

-- and has no dot
right_off : (w : InkWindow) (n t : ℕ) → w.width ≤ n → false ≡ on (table_of w.kernel) (plane_of w) (errors_of w) t n
right_off w n t right =
    let dot : Bool = is_dot (value_at (table_of w.kernel) (plane_of w) (errors_of w) t n) in
    sym (ap (λ b. (b && nat_lt t w.height) && dot) (le-ltb n w.width right))

pub outside_off : (w : InkWindow) (n t : ℕ) → (w.width ≤ n) ⊎ (w.height ≤ t)
    → false ≡ on (table_of w.kernel) (plane_of w) (errors_of w) t n
outside_off w n t (inl right) = right_off w n t right
outside_off w n t (inr below) =
    let dot : Bool = is_dot (value_at (table_of w.kernel) (plane_of w) (errors_of w) t n) in
    elim (cases_lt n w.width) [
      | inl inside ↦ sym (ap (λ b. (b && nat_lt t w.height) && dot) (lt-ltb n w.width inside)
          ∙ ap (λ b. b && dot) (le-ltb t w.height below))
      | inr right ↦ right_off w n t right
    ]
