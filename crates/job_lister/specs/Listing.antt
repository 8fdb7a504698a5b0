-- The listing of a job, a line for each command (this project's own).
use Rattle.std.specs.Prelude.{ℕ, List, [], ◌∷◌, ◌++◌, codes, length}
use Rattle.std.specs.Fmt.{decimal}
use Rattle.std.specs.List.{flat_map}
use Rattle.printer_definitions.specs.declared.inks.Ink.TheVariants.{Black}
use Rattle.escp2_definitions.specs.declared.command.Command.{Command}
use Rattle.escp2_definitions.specs.declared.command.Command.TheVariants as c
use Rattle.escp2_definitions.specs.declared.command.RasterHead.{RasterHead}
use Rattle.escp2_definitions.specs.Commands.{Entry, colour_code}
use Rattle.escp2_definitions.specs.Machine.{rows_dots}

-- how many dots the rows of a raster have
unfoldable pub dot_count : RasterHead → List ℕ → ℕ
dot_count header rows = length (rows_dots header.m header Black 0 0 rows)

-- numbers in decimal, each after a blank
abbrev pub numbers : List ℕ → List ℕ
numbers [] = []
numbers (n ∷ ns) = codes " " ++ decimal n ++ numbers ns

-- the name of a command
abbrev pub name_of : Command → List ℕ
name_of c.Init = codes "INIT"
name_of c.Graphics = codes "GRAPHICS"
name_of (c.Unit m) = codes "UNIT"
name_of (c.MicroWeave n) = codes "MICROWEAVE"
name_of (c.OneWay n) = codes "ONEWAY"
name_of (c.Length n) = codes "LENGTH"
name_of (c.Margins top bottom) = codes "MARGINS"
name_of (c.DownTo n) = codes "DOWNTO"
name_of (c.DownBy n) = codes "DOWNBY"
name_of (c.Across n) = codes "ACROSS"
name_of c.Return = codes "RETURN"
name_of c.Eject = codes "EJECT"
name_of (c.Colour ink) = codes "COLOUR"
name_of (c.Raster header) = codes "RASTER"

-- the numbers of a command; of a raster its numbers, and how many dots it has
abbrev pub numbers_of : Command → List ℕ → List ℕ
numbers_of c.Init rows = []
numbers_of c.Graphics rows = []
numbers_of (c.Unit m) rows = m ∷ []
numbers_of (c.MicroWeave n) rows = n ∷ []
numbers_of (c.OneWay n) rows = n ∷ []
numbers_of (c.Length n) rows = n ∷ []
numbers_of (c.Margins top bottom) rows = top ∷ bottom ∷ []
numbers_of (c.DownTo n) rows = n ∷ []
numbers_of (c.DownBy n) rows = n ∷ []
numbers_of (c.Across n) rows = n ∷ []
numbers_of c.Return rows = []
numbers_of c.Eject rows = []
numbers_of (c.Colour ink) rows = colour_code ink ∷ []
numbers_of (c.Raster header) rows = header.c ∷ header.v ∷ header.h ∷ header.m ∷ header.n ∷ dot_count header rows ∷ []

-- the line of a command whose first byte is at this offset
abbrev pub line_of : ℕ → Command → List ℕ → List ℕ
line_of place command rows = decimal place ++ codes " " ++ name_of command ++ numbers (numbers_of command rows) ++ codes "\n"

-- The listing of commands.
abbrev pub listing : List Entry → List ℕ
listing entries = flat_map (λ entry. line_of entry.at entry.command entry.rows) entries
