-- The first of the slots that a seat has.
use Rattle.std.specs.Prelude.{◌≡◌, ℕ, List, [], ◌∷◌, ◌++◌}
use Rattle.atomic_table.specs.Table.{Me, rest}
use Rattle.board_steps.specs.declared.rule.Cell.{Cell}
use Rattle.board_steps.specs.declared.rule.Cell.TheVariants.{Empty}
use Rattle.board_steps.specs.declared.rule.View.{View}

-- the slot is the first
abbrev pub IsFront : ℕ → List (ℕ × Cell) → Type 0
IsFront slot hand = (x : Cell) × (hand ≡ (slot, x) ∷ rest hand)

-- the value of a slot is of this kind
abbrev pub IsOfKind : {A : Type 0} → (A → Cell) → Cell → Type 0
IsOfKind {A} kind cell = (x : A) × (cell ≡ kind x)

-- The value of the first slot is taken out, and the slot is moved after the others, empty.
pub record TakesOut (slot : ℕ) (m : Me Cell View) (cell : Cell) (n : Me Cell View) : Type 0 where
  pub front : m.1 ≡ (slot, cell) ∷ rest m.1
  pub after : n ≡ (m.0, rest m.1 ++ (slot, Empty) ∷ [])
