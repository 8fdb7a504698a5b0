use Rattle.std.proofs.Common.{sym, subst}
use Rattle.std.specs.Int.{IsGcd}
use Rattle.printer_definitions.specs.Printer.{Printer}
use Rattle.page_writer.proofs.sums.most_bytes.Goals as goal

pub make-plan-requires-clause-coprime : goal.make-plan-requires-clause-coprime
make-plan-requires-clause-coprime c =
    let P : Printer → Type 0 = λ p. IsGcd p.nozzles p.pitch 1 in
    subst P (sym c.profile.view_is) c.requires.can.coprime
