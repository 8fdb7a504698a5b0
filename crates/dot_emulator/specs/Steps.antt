-- The steps of a printer.
use Rattle.std.specs.Prelude.{◌≡◌}
use Rattle.printer_definitions.specs.Printer.{Printer, column_step, nozzle_step, row_step}
use Rattle.dot_emulator.specs.declared.raster.Steps.{Steps}

pub record AreStepsOf (p : Printer) (steps : Steps) : Type 0 where
  pub column : steps.column ≡ column_step p
  pub row : steps.row ≡ row_step p
  pub nozzle : steps.nozzle ≡ nozzle_step p
  pub nozzles : steps.nozzles ≡ p.nozzles
