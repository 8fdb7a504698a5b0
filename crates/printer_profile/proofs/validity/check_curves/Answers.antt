use Rattle.std.proofs.Common.{ap, sym, ◌∙◌, arith}
use Rattle.printer_profile.proofs.Curves.{answer, broken_is}
use Rattle.printer_profile.proofs.validity.check_curves.Goals as goal

pub returns-in-Some : goal.returns-in-Some
unfolding answer
returns-in-Some c = ap answer (sym c.in-Some.is ∙ c.broken_curve.ensures) ∙ broken_is c.args.curves.now (omega arith)

pub returns-in-None : goal.returns-in-None
unfolding answer
returns-in-None c = ap answer (sym c.in-None.is ∙ c.broken_curve.ensures) ∙ broken_is c.args.curves.now (omega arith)
