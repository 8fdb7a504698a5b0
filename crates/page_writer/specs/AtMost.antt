-- How many rasters were appended at most.
use Rattle.std.specs.Prelude.{ℕ, ◌≤◌, List, Option}
use Rattle.std.specs.Io.KnownBytes.{Appends}
use Rattle.escp2_definitions.specs.Commands.{commands}
use Rattle.escp2_definitions.specs.Rasters.{ink_rasters}
use Rattle.printer_definitions.specs.declared.inks.Ink.{Ink}

-- What was appended has at most this many rasters of an ink.
pub record AppendsAtMost (most : ℕ) (old new : Option (List ℕ)) : Type 0 where
  pub bytes : List ℕ
  pub is : Appends old new bytes
  pub few : (ink : Ink) → ink_rasters ink (commands bytes).entries ≤ most
