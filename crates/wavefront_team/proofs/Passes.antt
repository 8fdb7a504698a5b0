-- Which tiles a pass has posted.
use Rattle.std.proofs.Common.{◌≡◌, ℕ, ◌+◌, ◌==◌, ◌<◌, ◌≤◌, inl, inr, sym, ap, arith, subst, eq-eqb}
use Rattle.std.proofs.lemmas.Bool.{cases_eq}
use Rattle.board_core.proofs.Numbers.{goes_on}
use Rattle.board_steps.specs.Rule.{one_if, times}
use Rattle.board_steps.specs.Steps.{posted_view}
use Rattle.board_steps.specs.declared.rule.Slab.{Slab}
use Rattle.board_steps.specs.declared.rule.View.{View}
use Rattle.tile_board.specs.Board.{LacksEdge}
use Rattle.tile_board.specs.Slabs.{number_in, shape_of}
use Rattle.tile_shape.specs.declared.tiles.Place.{Place}

-- where a pass has posted all tiles with lower numbers, this tile lacks no edge
pub lacks_none : (b : Slab) (v : View) (t : Place) (word : ℕ) → LacksEdge b v t word
    → ((n : ℕ) → n < number_in b t → 1 ≤ times n v.mine) → ⊥
lacks_none b v t word lacks before =
    let some = before (number_in b lacks.from) (goes_on (shape_of b) lacks.dir lacks.from t lacks.tile lacks.receiver) in
    let none = lacks.not_mine in
    omega arith

-- one tile more
pub posted_more : (v w : View) (t : ℕ) → w.mine ≡ v.mine → 1 ≤ times t v.mine → ((n : ℕ) → n < t → 1 ≤ times n v.mine)
    → (n : ℕ) → n < t + 1 → 1 ≤ times n w.mine
posted_more v w t same here before n low =
    let Q : ℕ → Type 0 = λ m. 1 ≤ m in
    subst Q (sym (ap (times n) same)) (elim (cases_eq n t) [
      | inl is ↦ let N : ℕ → Type 0 = λ m. 1 ≤ times m v.mine in subst N (sym is) here
      | inr other ↦ before n (omega arith)
    ])

-- once it has posted a tile and all before it
pub posted_now : (v : View) (t : ℕ) → ((n : ℕ) → n < t → 1 ≤ times n v.mine) → (n : ℕ) → n < t + 1 → 1 ≤ times n (posted_view v t).mine
posted_now v t before n low = elim (cases_eq t n) [
  | inl is ↦ let e : one_if (t == n) ≡ 1 = ap one_if (eq-eqb t n is) in omega arith
  | inr other ↦ let h = before n (omega arith) in omega arith
]

pub posted_after : (v u w : View) (n m : ℕ) → w ≡ posted_view u n → u.mine ≡ v.mine → n ≡ m
    → ((k : ℕ) → k < m → 1 ≤ times k v.mine) → (k : ℕ) → k < m + 1 → 1 ≤ times k w.mine
posted_after v u w n m is same number before k low =
    let W : View → Type 0 = λ x. 1 ≤ times k x.mine in
    let earlier : (l : ℕ) → l < n → 1 ≤ times l u.mine = λ l less.
    let h = before l (omega arith) in let e = ap (times l) same in omega arith in
    subst W (sym is) (posted_now u n earlier k (omega arith))
