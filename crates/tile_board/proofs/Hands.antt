-- The slots that a seat has, in the order of use.
use Rattle.std.proofs.Common.{◌≡◌, ℕ, ℤ, ◌+◌, ◌*◌, List, [], ◌∷◌, ◌++◌, Some, None, refl, sym, ◌∙◌, ap, append_assoc, append-nil}
use Rattle.atomic_table.specs.Table.{Me, rest}
use Rattle.board_steps.specs.Content.{blank_of, fresh_of}
use Rattle.board_steps.specs.Rule.{setting_of}
use Rattle.board_steps.specs.Steps.{incoming}
use Rattle.board_steps.specs.declared.rule.Cell.{Cell}
use Rattle.board_steps.specs.declared.rule.Cell.TheVariants.{Empty, Right, Bottom, Corner, Dots}
use Rattle.board_steps.specs.declared.rule.Slab.{Slab}
use Rattle.board_steps.specs.declared.rule.View.{View}
use Rattle.tile_board.specs.Front.{IsFront, TakesOut}
use Rattle.tile_board.specs.Room.{IsNext, TakesIn, emptied}
use Rattle.tile_board.specs.Slabs.{amounts_of}

abbrev pub Hand : Type 0
Hand = List (ℕ × Cell)

-- the value of the first slot
abbrev pub first_cell : Hand → Cell
first_cell [] = Empty
first_cell (x ∷ xs) = x.1

-- the value in a cell of each kind
abbrev pub right_in : Cell → List (List ℤ)
right_in (Right edge) = edge
right_in _ = []

abbrev pub bottom_in : Cell → List (List ℤ)
bottom_in (Bottom edge) = edge
bottom_in _ = []

abbrev pub corner_in : Cell → List (List ℤ)
corner_in (Corner edge) = edge
corner_in _ = []

abbrev pub dots_in : Cell → List (List ℕ)
dots_in (Dots bits) = bits
dots_in _ = []

pub any-front : (x : Cell) (slot n : ℕ) (hand r : Hand) → slot ≡ n → hand ≡ (n, x) ∷ r → IsFront slot hand
any-front x slot n hand r e h = (x, h ∙ (λ i. (sym e i, x) ∷ rest (sym h i)))

-- The value that is taken out of the first slot.
pub record Out (m : Me Cell View) (x cell : Cell) (n : ℕ) (r : Hand) (after : Me Cell View) : Type 0 where
  pub same : cell ≡ x
  pub view : after.0 ≡ m.0
  pub hand : after.1 ≡ r ++ (n, Empty) ∷ []

pub out-is : (x cell : Cell) (slot n : ℕ) (m after : Me Cell View) (r : Hand) → slot ≡ n → m.1 ≡ (n, x) ∷ r → TakesOut slot m cell after
    → Out m x cell n r after
out-is x cell slot n m after r e h out = record {
  same = ap first_cell (sym out.front ∙ h);
  view = ap (λ (z : Me Cell View). z.0) out.after;
  hand = ap (λ (z : Me Cell View). z.1) out.after ∙ (λ i. rest (h i) ++ (e i, Empty) ∷ []);
}

pub regroup : (a b c e0 e1 e2 e3 : Hand)
    → ((((a ++ (b ++ (c ++ []))) ++ e0) ++ e1) ++ e2) ++ e3 ≡ a ++ (b ++ (c ++ (e0 ++ (e1 ++ (e2 ++ e3)))))
regroup a b c e0 e1 e2 e3 = simp (append_assoc, append-nil) refl

-- ---- an edge that comes

pub came : (b : Slab) (d t q slot : ℕ) (cell : Cell) (m after : Me Cell View) → (setting_of b).graph.from t d ≡ Some q → slot ≡ 4 * q + d
    → TakesOut slot m cell after → TakesIn b d t m after
came b d t q slot cell m after from e out = record {
  view = ap (λ (z : Me Cell View). z.0) out.after;
  hand = λ r h.
      let content : Cell = (setting_of b).content q d in
      let here : m.1 ≡ (4 * q + d, content) ∷ r = h ∙ ap (λ o. incoming (setting_of b).content d o ++ r) from in
      (out-is content cell slot (4 * q + d) m after r e here out).hand ∙ ap (λ o. r ++ incoming emptied d o) (sym from);
}

pub stayed : (b : Slab) (d t : ℕ) (m : Me Cell View) → (setting_of b).graph.from t d ≡ None → TakesIn b d t m m
stayed b d t m from = record {
  view = refl;
  hand = λ r h. h ∙ ap (λ o. incoming (setting_of b).content d o ++ r) from ∙ sym (append-nil r)
      ∙ ap (λ o. r ++ incoming emptied d o) (sym from);
}

-- the edge is what its tile gives
pub next-cell : (b : Slab) (d t q slot : ℕ) (cell : Cell) (m after : Me Cell View) → (setting_of b).graph.from t d ≡ Some q
    → slot ≡ 4 * q + d
    → IsNext b d t m.1 → TakesOut slot m cell after → cell ≡ (setting_of b).content q d
next-cell b d t q slot cell m after from e next out =
    let content : Cell = (setting_of b).content q d in
    let here : m.1 ≡ (4 * q + d, content) ∷ next.0 = next.1 ∙ ap (λ o. incoming (setting_of b).content d o ++ next.0) from in
    (out-is content cell slot (4 * q + d) m after next.0 e here out).same

pub next-front : (b : Slab) (d t q slot : ℕ) (hand : Hand) → (setting_of b).graph.from t d ≡ Some q → slot ≡ 4 * q + d
    → IsNext b d t hand → IsFront slot hand
next-front b d t q slot hand from e next =
    any-front ((setting_of b).content q d) slot (4 * q + d) hand next.0 e
    (next.1 ∙ ap (λ o. incoming (setting_of b).content d o ++ next.0) from)

-- ---- an edge that no tile sends

pub blank-is : (b : Slab) (d t : ℕ) (cell : Cell) → cell ≡ (setting_of b).fresh t d → (setting_of b).graph.from t d ≡ None
    → cell ≡ blank_of (amounts_of b).inks d
blank-is b d t cell e none = e ∙ ap (fresh_of (amounts_of b).inks d) none
