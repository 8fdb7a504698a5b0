-- How many rasters of an ink a job has.
use Rattle.std.specs.Prelude.{ℕ, ◌+◌, if◌then◌else◌, List, [], ◌∷◌}
use Rattle.printer_definitions.specs.declared.inks.Ink.{Ink}
use Rattle.printer_definitions.specs.declared.inks.Ink.TheVariants.{Black}
use Rattle.printer_definitions.specs.Inks.{same_ink}
use Rattle.escp2_definitions.specs.declared.command.Command.{Command}
use Rattle.escp2_definitions.specs.declared.command.Command.TheVariants as c
use Rattle.escp2_definitions.specs.Commands.{Entry}

-- the ink that rasters fire after a command
abbrev pub colour_after : Ink → Command → Ink
colour_after ink c.Init = Black
colour_after ink (c.Colour other) = other
colour_after ink other = ink

-- one for a raster
abbrev pub raster_count : Command → ℕ
raster_count (c.Raster header) = 1
raster_count other = 0

-- The rasters of an ink among commands, which begin with this colour.
abbrev pub ink_rasters_from : Ink → Ink → List Entry → ℕ
ink_rasters_from ink colour [] = 0
ink_rasters_from ink colour (entry ∷ entries) =
    (if same_ink ink colour then raster_count entry.command else 0) + ink_rasters_from ink (colour_after colour entry.command) entries

-- The rasters of an ink in a job.
abbrev pub ink_rasters : Ink → List Entry → ℕ
ink_rasters ink entries = ink_rasters_from ink Black entries
