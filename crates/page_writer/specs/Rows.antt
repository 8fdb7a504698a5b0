-- The commands of rows.
use Rattle.std.specs.Prelude.{Bool, if◌then◌else◌, List, [], ◌∷◌}
use Rattle.std.specs.List.{flat_map}
use Rattle.base_definitions.specs.Packed.{packed}
use Rattle.escp2_definitions.specs.declared.command.Command.TheVariants as c
use Rattle.escp2_definitions.specs.declared.command.RasterHead.{RasterHead}
use Rattle.page_definitions.specs.Strokes.{Spoken, has_dot, say}
use Rattle.printer_definitions.specs.declared.inks.Ink.{Ink}

-- the commands that fire rows of an ink; none where the rows have no dot
abbrev pub rows_commands : RasterHead → Ink → List (List Bool) → List Spoken
rows_commands header ink rows =
    if has_dot rows
    then say (c.Colour ink) ∷ say c.Return ∷ record { command = c.Raster header; rows = flat_map packed rows } ∷ []
    else []
