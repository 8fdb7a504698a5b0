use Rattle.std.proofs.Common.{◌≡◌, subst, sym, Result, Ok}
use Rattle.printer_definitions.specs.Printer.{Printer}
use Rattle.escp2_definitions.specs.declared.command.Command.{Command}
use Rattle.escp2_definitions.specs.declared.stops.EmulatorFault.{EmulatorFault}
use Rattle.escp2_definitions.specs.Machine.{Machine}
use Rattle.dot_emulator.specs.declared.state.State.{State}
use Rattle.dot_emulator.specs.States.{IsStep, machine_of}
use Rattle.dot_emulator.proofs.state.State.after.Goals as goal

at_command : (p : Printer) (m : Machine) (command other : Command) (r : Result State EmulatorFault)
    → command ≡ other → IsStep p m other r → IsStep p m command r
at_command p m command other r is step = let P : Command → Type 0 = λ k. IsStep p m k r in subst P (sym is) step

pub returns-in-Init : goal.returns-in-Init
returns-in-Init c = λ p dots has. at_command p
    (machine_of c.args.self.now dots) c.args.command _ c.init.result c.in-Init.is (c.init.ensures p dots has)

pub returns-in-Graphics : goal.returns-in-Graphics
returns-in-Graphics c = λ p dots has. at_command p (machine_of c.args.self.now dots) c.args.command _
    (Ok c.graphics.result) c.in-Graphics.is (c.graphics.ensures p dots)

pub returns-in-Unit : goal.returns-in-Unit
returns-in-Unit c = λ p dots has. at_command p
    (machine_of c.args.self.now dots) c.args.command _ (Ok c.set_unit.result) c.in-Unit.is (c.set_unit.ensures p dots)

pub returns-in-Length : goal.returns-in-Length
returns-in-Length c = λ p dots has. at_command p (machine_of c.args.self.now dots)
    c.args.command _ c.set_length.result c.in-Length.is (c.set_length.ensures p dots has)

pub returns-in-Margins : goal.returns-in-Margins
returns-in-Margins c = λ p dots has. at_command p (machine_of c.args.self.now dots)
    c.args.command _ c.set_margins.result c.in-Margins.is (c.set_margins.ensures p dots has)

pub returns-in-DownTo : goal.returns-in-DownTo
returns-in-DownTo c = λ p dots has. at_command p
    (machine_of c.args.self.now dots) c.args.command _ c.down_to.result c.in-DownTo.is (c.down_to.ensures p dots)

pub returns-in-DownBy : goal.returns-in-DownBy
returns-in-DownBy c = λ p dots has. at_command p
    (machine_of c.args.self.now dots) c.args.command _ c.down_by.result c.in-DownBy.is (c.down_by.ensures p dots)

pub returns-in-Across : goal.returns-in-Across
returns-in-Across c = λ p dots has. at_command p
    (machine_of c.args.self.now dots) c.args.command _ c.across_to.result c.in-Across.is (c.across_to.ensures p dots)

pub returns-in-Return : goal.returns-in-Return
returns-in-Return c = λ p dots has. at_command p (machine_of c.args.self.now dots) c.args.command _
    (Ok c.return_left.result) c.in-Return.is (c.return_left.ensures p dots)

pub returns-in-Colour : goal.returns-in-Colour
returns-in-Colour c = λ p dots has. at_command p (machine_of c.args.self.now dots) c.args.command _
    (Ok c.set_colour.result) c.in-Colour.is (c.set_colour.ensures p dots)
