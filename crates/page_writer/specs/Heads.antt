-- What a head fires over planes, stroke by stroke.
use Rattle.std.specs.Prelude.{◌≡◌, ℕ, suc, ◌*◌, ◌<◌, ◌≤◌, ◌^◌, Bool, if◌then◌else◌, List, [], ◌∷◌, length, map}
use Rattle.dot_planes.specs.Tables.{DotTable}
use Rattle.page_definitions.specs.Strokes.{Stroke, Strokes}
use Rattle.printer_definitions.specs.declared.inks.Ink.{Ink}
use Rattle.printer_definitions.specs.Inks.{inks_of, same_ink}
use Rattle.printer_definitions.specs.Printer.{Printer, row_units}
use Rattle.base_definitions.specs.Limits.{most_columns, most_rows}
use Rattle.separation_definitions.specs.CanPrint.{CanPrint}
use Rattle.base_definitions.specs.Counting.{count_from}

-- The strokes of a head of `nozzles` nozzles over a window of `rows` rows: how many rows above the window the head's
-- first position is, how many strokes there are, the row of each stroke's first nozzle, counted from the head's first
-- position, and the dots of planes that a stroke fires, by the ink's place in its set and the nozzle.
pub record HeadStrokes : Type 0 where
  pub rows : ℕ
  pub nozzles : ℕ
  pub above : ℕ
  pub count : ℕ
  pub start : ℕ → ℕ
  pub row : DotTable → ℕ → ℕ → ℕ → List Bool

-- the rows of an ink in a stroke, one for each nozzle
abbrev pub stroke_rows : HeadStrokes → DotTable → ℕ → ℕ → List (List Bool)
stroke_rows head t stroke place = map (head.row t stroke place) (count_from 0 head.nozzles)

-- an ink's place in a set; past the last one where it is not in the set
unfoldable pub place_in : List Ink → Ink → ℕ
place_in [] ink = 0
place_in (i ∷ inks) ink = if same_ink i ink then 0 else suc (place_in inks ink)

-- a stroke over planes
abbrev pub stroke_over : Printer → HeadStrokes → DotTable → ℕ → Stroke
stroke_over p head t stroke = record { start = head.start stroke; rows = λ ink. stroke_rows head t stroke (place_in (inks_of p.inks) ink) }

-- The strokes of a head over planes.
abbrev pub strokes_over : Printer → HeadStrokes → DotTable → Strokes
strokes_over p head t = record { above = head.above; list = map (stroke_over p head t) (count_from 0 head.count) }

-- The planes have the rows of the head's window, and each row that the head fires is as wide as they are.
pub record IsOver (head : HeadStrokes) (t : DotTable) : Type 0 where
  pub rows : t.rows ≡ head.rows
  pub columns : t.width ≤ most_columns
  pub wide : (stroke place nozzle : ℕ) → length (head.row t stroke place nozzle) ≡ t.width

-- A head of a printer over planes of the printer's inks: there is room for it above the window, its strokes go down
-- the page, and each begins on the sheet.
pub record Suits (p : Printer) (head : HeadStrokes) (t : DotTable) : Type 0 where
  pub can : CanPrint p
  pub over : IsOver head t
  pub inks : t.inks ≡ length (inks_of p.inks)
  pub nozzles : head.nozzles ≡ p.nozzles
  pub room : head.above ≤ p.top
  pub few : head.count < 2 ^ 30
  pub rising : (i j : ℕ) → i ≤ j → j < head.count → head.start i ≤ head.start j
  pub low : (stroke : ℕ) → stroke < head.count → head.start stroke * row_units p ≤ most_rows

-- A page to print: the strokes of a head of a printer over planes.
pub record HeadPage : Type 0 where
  pub p : Printer
  pub head : HeadStrokes
  pub t : DotTable

-- the head suits the printer and the planes
abbrev pub IsPage : HeadPage → Type 0
IsPage page = Suits page.p page.head page.t
