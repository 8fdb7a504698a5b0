-- Heads whose firings were worked out by hand.
use Rattle.std.specs.Prelude.{List, [], ◌∷◌, true, false}
use Rattle.shingle_plan.specs.Shingles.{Shingle}

-- Three nozzles two rows apart, over six rows: the halves have one nozzle each, and the third fires nothing. The head
-- begins two rows above the window, and moves down a row a pass.
abbrev pub six_rows : List Shingle
six_rows =
    record { pass = 0; nozzle = 1; row = 0; even = true }
    ∷ record { pass = 1; nozzle = 1; row = 1; even = true }
    ∷ record { pass = 2; nozzle = 0; row = 0; even = false }
    ∷ record { pass = 2; nozzle = 1; row = 2; even = true }
    ∷ record { pass = 3; nozzle = 0; row = 1; even = false }
    ∷ record { pass = 3; nozzle = 1; row = 3; even = true }
    ∷ record { pass = 4; nozzle = 0; row = 2; even = false }
    ∷ record { pass = 4; nozzle = 1; row = 4; even = true }
    ∷ record { pass = 5; nozzle = 0; row = 3; even = false }
    ∷ record { pass = 5; nozzle = 1; row = 5; even = true }
    ∷ record { pass = 6; nozzle = 0; row = 4; even = false }
    ∷ record { pass = 7; nozzle = 0; row = 5; even = false }
    ∷ []

-- two nozzles three rows apart, over one row
abbrev pub one_row : List Shingle
one_row =
    record { pass = 0; nozzle = 1; row = 0; even = true }
    ∷ record { pass = 3; nozzle = 0; row = 0; even = false }
    ∷ []

-- five nozzles three rows apart, over two rows: halves of two nozzles, and nine rows above the window
abbrev pub two_rows : List Shingle
two_rows =
    record { pass = 0; nozzle = 3; row = 0; even = true }
    ∷ record { pass = 2; nozzle = 2; row = 1; even = true }
    ∷ record { pass = 3; nozzle = 1; row = 0; even = false }
    ∷ record { pass = 5; nozzle = 0; row = 1; even = false }
    ∷ []
