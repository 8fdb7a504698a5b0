-- A row of ten bytes, for worked examples.
use Rattle.std.specs.Prelude.{ℕ, List, [], ◌∷◌}

-- two equal bytes, and then five
abbrev pub ten : List ℕ
ten = 7 ∷ 8 ∷ 8 ∷ 9 ∷ 9 ∷ 9 ∷ 9 ∷ 9 ∷ 1 ∷ 2 ∷ []
