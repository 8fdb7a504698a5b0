-- The tiles of a window are a graph.
use Rattle.std.proofs.Common.{◌≡◌, ◌≢◌, ℕ, zero, suc, ◌+◌, ◌-◌, ◌*◌, ◌/◌, ◌%◌, ◌<◌, ◌&&◌, Bool, true, false, ltb, refl, sym, ap, ap₂, ◌∙◌}
use Rattle.std.proofs.Common.{arith, Some, mod-lt, div-add-mod', lit<}
use Rattle.std.proofs.Math.Nat.{mul_comm, div-lt_iff_lt-mul}
use Rattle.std.proofs.lemmas.Bool.{ltb-true, lt-ltb}
use Rattle.std.proofs.lemmas.Nat.{div-mul-add, mul-add-lt}
use Rattle.board_core.proofs.Numbers.{row_less, row_more}
use Rattle.board_steps.specs.Graph.{IsGraph, only_if, next_of, from_of, next_in, from_in}

pub only-inv : (b : Bool) (x p : ℕ) → only_if b x ≡ Some p → (b ≡ true) × (x ≡ p)
only-inv true x p e = (refl, cc)
only-inv false x p e = absurd (cc)

pub only-yes : (b : Bool) (x p : ℕ) → b ≡ true → x ≡ p → only_if b x ≡ Some p
only-yes b x p e f = ap₂ only_if e f

pub both : (a b : Bool) → (a && b) ≡ true → (a ≡ true) × (b ≡ true)
both true b e = (refl, e)
both false b e = absurd (cc)

pub and-yes : (a b : Bool) → a ≡ true → b ≡ true → (a && b) ≡ true
and-yes a b e f = ap₂ (λ (x y : Bool). x && y) e f

-- tile t is in column c and band j
pub record At (C B c j t : ℕ) : Type 0 where
  pub is : t ≡ j * C + c
  pub column : c < C
  pub band : j < B

pub at-div : (C B c j t : ℕ) → At C B c j t → t / C ≡ j
at-div C B c j t a = ap (λ (x : ℕ). x / C) a.is ∙ div-mul-add j C c a.column

pub at-mod : (C B c j t : ℕ) → At C B c j t → t % C ≡ c
at-mod C B c j t a = grind (arith, at-div, div-add-mod')

pub at-below : (C B c j t : ℕ) → At C B c j t → t < B * C
at-below C B c j t a = grind (arith, mul-add-lt, mul_comm)

pub at-of : (C B t : ℕ) → 0 < C → t < B * C → At C B (t % C) (t / C) t
at-of C B t pos near = record { is = sym (div-add-mod' t C); column = mod-lt t pos; band = (div-lt_iff_lt-mul pos).1 near }

pub next-at : (C B c j t d : ℕ) → At C B c j t → next_in C B t d ≡ next_of C B c j t d
next-at C B c j t d a = ap₂ (λ (x y : ℕ). next_of C B x y t d) (at-mod C B c j t a) (at-div C B c j t a)

from-at : (C B c j t d : ℕ) → At C B c j t → from_in C B t d ≡ from_of C B c j t d
from-at C B c j t d a = ap₂ (λ (x y : ℕ). from_of C B x y t d) (at-mod C B c j t a) (at-div C B c j t a)

abbrev There : ℕ → ℕ → ℕ → ℕ → ℕ → Type 0
There C B t d p = (p < B * C) × (p ≢ t) × (d < 3) × (from_in C B p d ≡ Some t)

there : (C B c j t d p : ℕ) → At C B c j t → next_of C B c j t d ≡ Some p → There C B t d p
there C B c j t zero p a e =
    let i = only-inv (ltb (c + 1) C) (t + 1) p e in let more = ltb-true (c + 1) C i.0 in let f = a.is in let k = i.1 in
    let b : At C B (c + 1) j p = record { is = omega arith; column = more; band = a.band } in (
      at-below C B (c + 1) j p b,
      (λ z. omega arith),
      lit< tt,
      from-at C B (c + 1) j p 0 b
          ∙ only-yes (ltb 0 (c + 1)) (p - 1) t (lt-ltb 0 (c + 1) (omega arith)) (omega arith),
    )
there C B c j t (suc zero) p a e =
    let i = only-inv (ltb 0 c && ltb (j + 1) B) (t + C - 1) p e in let two = both (ltb 0 c) (ltb (j + 1) B) i.0 in
    let pos = ltb-true 0 c two.0 in let more = ltb-true (j + 1) B two.1 in let f = a.is in let k = i.1 in let row = row_more C j in
    let col = a.column in
    let b : At C B (c - 1) (j + 1) p = record { is = omega arith; column = omega arith; band = more } in (
      at-below C B (c - 1) (j + 1) p b,
      (λ z. omega arith),
      lit< tt,
      from-at C B (c - 1) (j + 1) p 1 b
          ∙ only-yes (ltb (c - 1 + 1) C && ltb 0 (j + 1)) (p + 1 - C) t (and-yes _ _ (lt-ltb (c - 1 + 1) C (omega arith)) (lt-ltb 0 (j + 1)
          (omega arith))) (omega arith),
    )
there C B c j t (suc (suc zero)) p a e =
    let i = only-inv (ltb (j + 1) B) (t + C) p e in let more = ltb-true (j + 1) B i.0 in let f = a.is in let k = i.1 in
    let row = row_more C j in let col = a.column in
    let b : At C B c (j + 1) p = record { is = omega arith; column = a.column; band = more } in (
      at-below C B c (j + 1) p b,
      (λ z. omega arith),
      lit< tt,
      from-at C B c (j + 1) p 2 b
          ∙ only-yes (ltb 0 (j + 1)) (p - C) t (lt-ltb 0 (j + 1) (omega arith)) (omega arith),
    )
there C B c j t (suc (suc (suc d))) p a e = absurd (cc)

abbrev Back : ℕ → ℕ → ℕ → ℕ → ℕ → Type 0
Back C B p d t = (t < B * C) × (d < 3) × (next_in C B t d ≡ Some p)

back : (C B c j p d t : ℕ) → At C B c j p → from_of C B c j p d ≡ Some t → Back C B p d t
back C B c j p zero t a e =
    let i = only-inv (ltb 0 c) (p - 1) t e in let pos = ltb-true 0 c i.0 in let f = a.is in let k = i.1 in let col = a.column in
    let b : At C B (c - 1) j t = record { is = omega arith; column = omega arith; band = a.band } in (
      at-below C B (c - 1) j t b,
      lit< tt,
      next-at C B (c - 1) j t 0 b
          ∙ only-yes (ltb (c - 1 + 1) C) (t + 1) p (lt-ltb (c - 1 + 1) C (omega arith)) (omega arith),
    )
back C B c j p (suc zero) t a e =
    let i = only-inv (ltb (c + 1) C && ltb 0 j) (p + 1 - C) t e in let two = both (ltb (c + 1) C) (ltb 0 j) i.0 in
    let more = ltb-true (c + 1) C two.0 in let pos = ltb-true 0 j two.1 in let f = a.is in let k = i.1 in let row = row_less C j pos in
    let band = a.band in
    let b : At C B (c + 1) (j - 1) t = record { is = omega arith; column = more; band = omega arith } in (
      at-below C B (c + 1) (j - 1) t b,
      lit< tt,
      next-at C B (c + 1) (j - 1) t 1 b
          ∙ only-yes (ltb 0 (c + 1) && ltb (j - 1 + 1) B) (t + C - 1) p (and-yes _ _ (lt-ltb 0 (c + 1) (omega arith)) (lt-ltb (j - 1 + 1) B
          (omega arith))) (omega arith),
    )
back C B c j p (suc (suc zero)) t a e =
    let i = only-inv (ltb 0 j) (p - C) t e in let pos = ltb-true 0 j i.0 in let f = a.is in let k = i.1 in let row = row_less C j pos in
    let band = a.band in let b : At C B c (j - 1) t = record { is = omega arith; column = a.column; band = omega arith } in (
      at-below C B c (j - 1) t b,
      lit< tt,
      next-at C B c (j - 1) t 2 b
          ∙ only-yes (ltb (j - 1 + 1) B) (t + C) p (lt-ltb (j - 1 + 1) B (omega arith)) (omega arith),
    )
back C B c j p (suc (suc (suc d))) t a e = absurd (cc)

pub grid : (C B : ℕ) → 0 < C → IsGraph record { tiles = B * C; next = next_in C B; from = from_in C B }
grid C B pos = record {
  there = λ t d p near e. there C B (t % C) (t / C) t d p (at-of C B t pos near) e;
  back = λ p d t near e. back C B (p % C) (p / C) p d t (at-of C B p pos near) e;
}
