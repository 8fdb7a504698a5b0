-- What the head fires over a window, pass by pass, and the commands that print it (the commands are those of the
-- ESC/P Reference Manual; their order is this project's own).
use Rattle.std.specs.Prelude.{◌≡◌, ℕ, zero, suc, ◌+◌, ◌-◌, ◌*◌, ◌≤◌, ◌<◌, Bool, true, if◌then◌else◌, List, []}
use Rattle.std.specs.Prelude.{◌∷◌, ◌++◌, length, filter, slice_index_or}
use Rattle.std.specs.List.{AllByRecursion, flat_map, list_any}
use Rattle.printer_definitions.specs.declared.inks.Ink.{Ink}
use Rattle.printer_definitions.specs.Inks.{inks_of}
use Rattle.printer_definitions.specs.Printer.{Printer, column_step, nozzle_step, row_units}
use Rattle.escp2_definitions.specs.declared.command.RasterHead.{RasterHead}
use Rattle.escp2_definitions.specs.declared.command.Command.{Command}
use Rattle.escp2_definitions.specs.declared.command.Command.TheVariants as c
use Rattle.escp2_definitions.specs.Machine.{Dot}
use Rattle.base_definitions.specs.Packed.{packed}
use Rattle.escp2_definitions.specs.Written.{Coding, written}
use Rattle.page_definitions.specs.Dots.{Halftone, dots_wanted, place_of}
use Rattle.page_definitions.specs.Exact.{Exactly}

-- ---- strokes

-- One sweep of the head across the page: the row of its first nozzle, counted from the head's first position, and for
-- each ink the rows that its nozzles fire, the first nozzle's first. A nozzle that fires nothing has a blank row.
pub record Stroke : Type 0 where
  pub start : ℕ
  pub rows : Ink → List (List Bool)

-- The strokes of a page from the top, and how many rows above the window the head's first position is.
pub record Strokes : Type 0 where
  pub above : ℕ
  pub list : List Stroke

-- ---- the commands of strokes

-- A command, and the rows of a raster as plain bytes.
pub record Spoken : Type 0 where
  pub command : Command
  pub rows : List ℕ

abbrev pub say : Command → Spoken
say command = record { command = command; rows = [] }

abbrev pub has_dot : List (List Bool) → Bool
has_dot rows = list_any (list_any (λ on. on)) rows

-- the header of a raster of this many columns, its rows plain (0) or coded (1)
abbrev pub raster_header : Printer → ℕ → ℕ → RasterHead
raster_header p width coded = record { c = coded; v = nozzle_step p; h = column_step p; m = p.nozzles; n = width }

-- one ink of a stroke: nothing where it has no dot, else its colour, the return to the left margin, and its rows
abbrev pub ink_commands : Printer → ℕ → ℕ → Stroke → Ink → List Spoken
ink_commands p width coded stroke ink =
    if has_dot (stroke.rows ink)
    then say (c.Colour ink) ∷ say c.Return
    ∷ record { command = c.Raster (raster_header p width coded); rows = flat_map packed (stroke.rows ink) } ∷ []
    else []

-- a stroke: its inks in the order of their set
abbrev pub inks_commands : Printer → ℕ → ℕ → Stroke → List Spoken
inks_commands p width coded stroke = flat_map (ink_commands p width coded stroke) (inks_of p.inks)

-- whether some ink has a dot in a stroke
abbrev pub fires : Printer → Stroke → Bool
fires p stroke = list_any (λ ink. has_dot (stroke.rows ink)) (inks_of p.inks)

-- the command that moves down by this many units; none for 0
abbrev pub down_by : ℕ → List Spoken
down_by zero = []
down_by (suc n) = say (c.DownBy (suc n)) ∷ []

-- These strokes, where the last one before them began at row `last`: before each, the head moves down to it.
abbrev pub strokes_commands : Printer → ℕ → ℕ → ℕ → List Stroke → List Spoken
strokes_commands p width coded last [] = []
strokes_commands p width coded last (stroke ∷ strokes) =
    down_by ((stroke.start - last) * row_units p)
    ++ (inks_commands p width coded stroke ++ strokes_commands p width coded stroke.start strokes)

-- the commands before the strokes of a window, which begins `above` rows below the head's first position, on a sheet
-- of this length in units
abbrev pub prologue : Printer → ℕ → ℕ → ℕ → List Spoken
prologue p above height len =
    say c.Init ∷ say c.Graphics ∷ say (c.Unit 5) ∷ say (c.MicroWeave 0) ∷ say (c.OneWay 1) ∷ say (c.Length len)
    ∷ say (c.Margins ((p.top - above) * row_units p) ((p.top + height) * row_units p)) ∷ say (c.DownTo 0) ∷ []

-- The commands that print strokes over a window of this size, on a sheet of this length in units. Strokes without a
-- dot are left out.
abbrev pub page_commands : Printer → ℕ → ℕ → ℕ → ℕ → Strokes → List Spoken
page_commands p width height coded len strokes =
    prologue p strokes.above height len
    ++ (strokes_commands p width coded 0 (filter (fires p) strokes.list) ++ (say c.Eject ∷ say c.Init ∷ []))

-- the bytes of commands, with rows coded by `code`
abbrev pub bytes_of : (List ℕ → List ℕ) → List Spoken → List ℕ
bytes_of code job = flat_map (λ s. written code s.command s.rows) job

-- The bytes that print strokes over a window of this size, on a sheet of this length in units.
abbrev pub strokes_bytes : Coding → Printer → ℕ → ℕ → ℕ → Strokes → List ℕ
strokes_bytes coding p width height len strokes =
    bytes_of coding.code (page_commands p width height coding.c len strokes)

-- ---- what strokes fire

-- the dots of a row of an ink, from column x on, in row y of the window
abbrev pub row_fired : Printer → Ink → ℕ → ℕ → List Bool → List Dot
row_fired p ink y x [] = []
row_fired p ink y x (on ∷ row) = (if on then place_of p ink y x ∷ [] else []) ++ row_fired p ink y (x + 1) row

-- the dots of the rows of an ink, where the first nozzle is on this row, counted from the head's first position
abbrev pub rows_fired : Printer → ℕ → Ink → ℕ → List (List Bool) → List Dot
rows_fired p above ink start [] = []
rows_fired p above ink start (row ∷ rows) = row_fired p ink (start - above) 0 row ++ rows_fired p above ink (start + p.pitch) rows

abbrev pub stroke_fired : Printer → ℕ → Stroke → List Dot
stroke_fired p above stroke = flat_map (λ ink. rows_fired p above ink stroke.start (stroke.rows ink)) (inks_of p.inks)

-- The dots that strokes fire, at their places on paper.
abbrev pub fired : Printer → Strokes → List Dot
fired p strokes = flat_map (stroke_fired p strokes.above) strokes.list

-- ---- which strokes print a halftone

-- each stroke begins no higher than the one before it, and the first no higher than this row
abbrev pub GoDown : ℕ → List Stroke → Type 0
GoDown last [] = Unit {0}
GoDown last (stroke ∷ strokes) = (last ≤ stroke.start) × GoDown stroke.start strokes

-- one row for each nozzle, each as wide as the window
pub record IsWhole (nozzles width : ℕ) (rows : List (List Bool)) : Type 0 where
  pub many : length rows ≡ nozzles
  pub wide : AllByRecursion (λ row. length row ≡ width) rows

-- Rows with a dot lie on the window. The first nozzle is on this row, counted from the head's first position.
pub record IsOnWindow (pitch above height start : ℕ) (rows : List (List Bool)) : Type 0 where
  pub row : (i : ℕ) → list_any (λ on. on) (slice_index_or rows i []) ≡ true
      → (above ≤ start + i * pitch) × (start + i * pitch < above + height)

-- Strokes that print a halftone: there is room for the head above the window, the strokes go down the page, and
-- together they fire each dot of the halftone once and nothing else.
pub record Fires (p : Printer) (h : Halftone) (strokes : Strokes) : Type 0 where
  pub room : strokes.above ≤ p.top
  pub rising : GoDown 0 strokes.list
  pub whole : AllByRecursion (λ stroke. (ink : Ink) → IsWhole p.nozzles h.width (stroke.rows ink)) strokes.list
  pub on_window : AllByRecursion (λ stroke. (ink : Ink)
      → IsOnWindow p.pitch strokes.above h.height stroke.start (stroke.rows ink)) strokes.list
  pub once : Exactly (fired p strokes) (dots_wanted p h)
