-- Commands whose rows are written by one coding.
use Rattle.std.specs.Prelude.{◌≡◌}
use Rattle.escp2_definitions.specs.declared.command.Command.{Command}
use Rattle.escp2_definitions.specs.declared.command.Command.TheVariants as c
use Rattle.escp2_definitions.specs.Written.{Coding}

-- the `c` of a raster is that of the coding; the other commands have no rows
abbrev pub HasCoding : Coding → Command → Type 0
HasCoding coding (c.Raster header) = header.c ≡ coding.c
HasCoding coding other = Unit {0}
