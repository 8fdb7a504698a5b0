use Rattle.std.proofs.Common.{◌≡◌, subst, sym, List, ℕ, Result, Option}
use Rattle.printer_definitions.specs.Printer.{Printer}
use Rattle.escp2_definitions.specs.declared.command.Command.{Command}
use Rattle.escp2_definitions.specs.Machine.{Machine}
use Rattle.dot_emulator.specs.declared.emulator.Emulator.{Emulator}
use Rattle.dot_emulator.specs.declared.emulator.EmulatorStop.{EmulatorStop}
use Rattle.dot_emulator.specs.declared.sheet.Sheet.{Sheet}
use Rattle.dot_emulator.specs.Runs.{Runs}
use Rattle.dot_emulator.proofs.emulator.Emulator.run.Goals as goal

at_command : (p : Printer) (m : Machine) (command other : Command)
    (rows : List ℕ) (old new : Emulator) (r : Result (Option Sheet) EmulatorStop) → command ≡ other
    → Runs p m other rows old new r → Runs p m command rows old new r
at_command p m command other rows old new r is runs = let P : Command → Type 0 = λ k. Runs p m k rows old new r in subst P (sym is) runs

pub returns-in-Raster : goal.returns-in-Raster
returns-in-Raster c = λ p m shows. at_command p m c.args.command.now _ _ _ _ _ c.in-Raster.is (c.fire.ensures p m shows)

pub returns-in-Eject : goal.returns-in-Eject
returns-in-Eject c = λ p m shows. at_command p m c.args.command.now _ _ _ _ _ c.in-Eject.is (c.eject.ensures p m c.args.rows.now shows)

pub returns-in_default : goal.returns-in_default
returns-in_default c = λ p m shows. c.set.ensures p m c.args.rows.now shows
