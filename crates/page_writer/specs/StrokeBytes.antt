-- The bytes of a stroke.
use Rattle.std.specs.Prelude.{◌≡◌, ℕ, nat_lt, List, [], ◌∷◌, ◌++◌, filter}
use Rattle.escp2_definitions.specs.declared.command.Command.TheVariants as c
use Rattle.page_definitions.specs.PageBytes.{page_coding}
use Rattle.page_definitions.specs.Strokes.{Spoken, Stroke, Strokes, bytes_of, fires, inks_commands, say}
use Rattle.page_definitions.specs.Strokes.{strokes_bytes, strokes_commands}
use Rattle.dot_planes.specs.Tables.{DotTable}
use Rattle.page_writer.specs.Heads.{HeadStrokes, strokes_over}
use Rattle.page_writer.specs.Sums.{rasters_in}
use Rattle.printer_definitions.specs.Printer.{Printer}

-- The bytes of what the inks fire in a stroke are appended, with this many rasters: at least one where an ink fires a
-- dot.
pub record IsStroke (p : Printer) (width : ℕ) (stroke : Stroke) (old new : List ℕ) (rasters : ℕ) : Type 0 where
  pub items : new ≡ old ++ bytes_of page_coding.code (inks_commands p width page_coding.c stroke)
  pub rasters_are : rasters ≡ rasters_in (inks_commands p width page_coding.c stroke)
  pub fire : nat_lt 0 rasters ≡ fires p stroke

-- the commands of the strokes that have a dot
abbrev pub fired_strokes : Printer → ℕ → Strokes → List Spoken
fired_strokes p width strokes = strokes_commands p width page_coding.c 0 (filter (fires p) strokes.list)

-- The bytes that print the strokes of a head over planes, on a sheet of this length in units.
abbrev pub head_bytes : Printer → HeadStrokes → DotTable → ℕ → List ℕ
head_bytes p head t len = strokes_bytes page_coding p t.width t.rows len (strokes_over p head t)

-- the bytes after the strokes of a page
abbrev pub end_bytes : List ℕ
end_bytes = bytes_of page_coding.code (say c.Eject ∷ say c.Init ∷ [])
