-- Worked strokes for a head of three nozzles two rows apart, over two black rows of eight columns.
use Rattle.std.specs.Prelude.{ℕ, ◌*◌, Bool, true, false, List, [], ◌∷◌, ◌++◌, map}
use Rattle.escp2_definitions.specs.Machine.{Dot}
use Rattle.page_definitions.specs.Dots.{Halftone}
use Rattle.page_definitions.specs.Strokes.{Stroke, Strokes}
use Rattle.page_laws.specs.Examples.{black_dot, down_bytes, end_bytes, prologue_bytes, raster_bytes}

-- ---- rows of eight columns

abbrev pub blank : List Bool
blank = false ∷ false ∷ false ∷ false ∷ false ∷ false ∷ false ∷ false ∷ []

abbrev pub full : List Bool
full = true ∷ true ∷ true ∷ true ∷ true ∷ true ∷ true ∷ true ∷ []

abbrev pub even : List Bool
even = true ∷ false ∷ true ∷ false ∷ true ∷ false ∷ true ∷ false ∷ []

abbrev pub odd : List Bool
odd = false ∷ true ∷ false ∷ true ∷ false ∷ true ∷ false ∷ true ∷ []

-- a window with a dot at each place
abbrev pub two_black_rows : Halftone
two_black_rows = record { width = 8; height = 2; dot = λ ink y x. true }

-- a stroke that fires these rows with each ink
abbrev pub stroke : ℕ → List (List Bool) → Stroke
stroke start rows = record { start = start; rows = λ ink. rows }

-- dots at these columns of a row
abbrev pub dots_at : ℕ → List ℕ → List Dot
dots_at y columns = map (λ x. black_dot (10 * x) y) columns

-- three rows of a raster, each of one byte, not coded
abbrev pub three_rows : ℕ → ℕ → ℕ → List ℕ
three_rows a b d = raster_bytes 0x00 0x14 0x0A 0x03 0x08 (0x00 ∷ a ∷ 0x00 ∷ b ∷ 0x00 ∷ d ∷ [])

-- ---- shingled rows

-- each row is fired twice: its even columns by the nozzle in the middle, and its odd columns by the first
abbrev pub fired_twice : Strokes
fired_twice = record {
  above = 2;
  list = stroke 0 (blank ∷ even ∷ blank ∷ []) ∷ stroke 1 (blank ∷ even ∷ blank ∷ [])
      ∷ stroke 2 (odd ∷ blank ∷ blank ∷ []) ∷ stroke 3 (odd ∷ blank ∷ blank ∷ []) ∷ [];
}

abbrev pub fired_twice_bytes : List ℕ
fired_twice_bytes =
    prologue_bytes 0x0C 0x04 0x0C
    ++ three_rows 0x00 0xAA 0x00
    ++ down_bytes 0x02 ++ three_rows 0x00 0xAA 0x00
    ++ down_bytes 0x02 ++ three_rows 0x55 0x00 0x00
    ++ down_bytes 0x02 ++ three_rows 0x55 0x00 0x00
    ++ end_bytes

abbrev pub fired_twice_dots : List Dot
fired_twice_dots =
    dots_at 40 (0 ∷ 2 ∷ 4 ∷ 6 ∷ []) ++ dots_at 50 (0 ∷ 2 ∷ 4 ∷ 6 ∷ [])
    ++ dots_at 40 (1 ∷ 3 ∷ 5 ∷ 7 ∷ []) ++ dots_at 50 (1 ∷ 3 ∷ 5 ∷ 7 ∷ [])

-- ---- a nozzle that fires nothing

-- the last nozzle is dead, and the first makes up its row in a stroke of its own
abbrev pub made_up : Strokes
made_up = record {
  above = 4;
  list = stroke 0 (blank ∷ blank ∷ blank ∷ []) ∷ stroke 3 (blank ∷ full ∷ blank ∷ []) ∷ stroke 4 (full ∷ blank ∷ blank ∷ []) ∷ [];
}

abbrev pub made_up_bytes : List ℕ
made_up_bytes =
    prologue_bytes 0x0C 0x00 0x0C
    ++ down_bytes 0x06 ++ three_rows 0x00 0xFF 0x00
    ++ down_bytes 0x02 ++ three_rows 0xFF 0x00 0x00
    ++ end_bytes

abbrev pub made_up_dots : List Dot
made_up_dots = dots_at 50 (0 ∷ 1 ∷ 2 ∷ 3 ∷ 4 ∷ 5 ∷ 6 ∷ 7 ∷ []) ++ dots_at 40 (0 ∷ 1 ∷ 2 ∷ 3 ∷ 4 ∷ 5 ∷ 6 ∷ 7 ∷ [])
