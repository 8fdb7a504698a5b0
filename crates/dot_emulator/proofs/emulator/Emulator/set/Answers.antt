use Rattle.std.proofs.Common.{[], ◌∷◌, ◌≡◌, subst, ◌∙◌, true}
use Rattle.std.specs.Prelude.{Ok, is_some}
use Rattle.printer_definitions.specs.Printer.{tiny1}
use Rattle.printer_definitions.specs.declared.inks.Ink.TheVariants.{Black}
use Rattle.escp2_definitions.specs.Machine.{Dot, Machine}
use Rattle.dot_emulator.specs.States.{IsStep}
use Rattle.dot_emulator.proofs.Running.{IsStill, blank-still, plain-gives, plain-shows, rows-still, shown-dots, still}
use Rattle.dot_emulator.proofs.emulator.Emulator.set.Goals as goal

pub invariant_of-self-2 : goal.invariant_of-self-2
invariant_of-self-2 c =
    let d : Dot = record { ink = Black; x = 0; y = 0 } in
    let stays : is_some c.args.self.now.planes ≡ true → IsStill c.args.self.now.state c.in_ok-self.field-0 = λ some.
    still tiny1 d c.args.self.now.state c.in_ok-self.field-0 c.args.command c.requires.plain
    (c.in_ok-self.ensures tiny1 (d ∷ []) (c.is_some.ensures ∙ some)) in
    record {
      inks = c.args.self.now.inks;
      width = c.args.self.now.width;
      blank = blank-still c.args.self.now.planes c.args.self.now.state c.in_ok-self.field-0 stays c.args.self.now.blank;
      rows = rows-still c.args.self.now.planes
          c.args.self.now.state c.in_ok-self.field-0 c.args.self.now.steps.row stays c.args.self.now.rows;
      spare_inks = c.args.self.now.spare_inks;
      spare_width = c.args.self.now.spare_width;
      spare_blank = c.args.self.now.spare_blank;
    }

pub returns : goal.returns
returns c = λ p m rows shows.
    let P : Machine → Type 0 = λ n. IsStep p n c.args.command (Ok c.in_ok-self.field-0) in
    let step = subst P shows.state
    (c.in_ok-self.ensures p m.dots (c.is_some.ensures ∙ shown-dots p m c.args.self.now.planes shows.dots)) in (
      (step rows).0,
      plain-gives p m c.args.command c.requires.plain,
      c.drop_unfit.ensures p _ (record {
        steps = shows.steps;
        state = (step rows).1;
        dots = plain-shows p m c.args.command rows c.args.self.now.planes c.requires.plain (step rows).0 shows.dots;
      }),
    )
