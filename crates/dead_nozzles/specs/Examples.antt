-- Worked strokes of three nozzles, two rows apart, over a window of six rows. Starts count from four rows above it.
use Rattle.dead_nozzles.specs.Strokes.{Head, Shot, HeadStroke}
use Rattle.std.specs.Prelude.{ℕ, List, [], ◌∷◌}

abbrev pub three_nozzles : List ℕ → Head
three_nozzles dead = record { nozzles = 3; pitch = 2; height = 6; dead = dead }

abbrev pub fires : ℕ → ℕ → Shot
fires nozzle row = record { nozzle = nozzle; row = row }

abbrev pub starting : ℕ → List Shot → HeadStroke
starting start shots = record { start = start; shots = shots }

-- The passes start at 0, 3, 6 and 9. Nozzle 0 makes up rows 0 and 3, which were the last nozzle's.
abbrev pub last_is_dead : List HeadStroke
last_is_dead =
    starting 0 [] ∷ starting 3 (fires 1 1 ∷ []) ∷ starting 4 (fires 0 0 ∷ []) ∷ starting 6 (fires 0 2 ∷ fires 1 4 ∷ [])
    ∷ starting 7 (fires 0 3 ∷ []) ∷ starting 9 (fires 0 5 ∷ []) ∷ []

-- Nozzle 1 makes up rows 2 and 5, which were the first nozzle's.
abbrev pub first_is_dead : List HeadStroke
first_is_dead =
    starting 0 (fires 2 0 ∷ []) ∷ starting 3 (fires 1 1 ∷ fires 2 3 ∷ []) ∷ starting 4 (fires 1 2 ∷ [])
    ∷ starting 6 (fires 1 4 ∷ []) ∷ starting 7 (fires 1 5 ∷ []) ∷ starting 9 [] ∷ []

-- The last nozzle fires each row by itself.
abbrev pub one_is_live : List HeadStroke
one_is_live =
    starting 0 (fires 2 0 ∷ []) ∷ starting 1 (fires 2 1 ∷ []) ∷ starting 2 (fires 2 2 ∷ []) ∷ starting 3 (fires 2 3 ∷ [])
    ∷ starting 4 (fires 2 4 ∷ []) ∷ starting 5 (fires 2 5 ∷ []) ∷ starting 6 [] ∷ starting 9 [] ∷ []
