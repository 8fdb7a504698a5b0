use Rattle.std.proofs.Common.{subst, sym}
use Rattle.printer_definitions.specs.Inks.{ink_place}
use Rattle.printer_definitions.specs.Printer.{Printer}
use Rattle.printer_definitions.specs.declared.inks.Ink.{Ink}
use Rattle.ink_separation.specs.Scaling.{by_ink}
use Rattle.ink_separation.proofs.ByInk.{IsScale, scales_are}
use Rattle.ink_separation.proofs.scales.Scales.make.Goals as goal

pub invariant_of-result : goal.invariant_of-result
invariant_of-result c =
    let P : Printer → Type 0 = λ p. (ink : Ink)
    → IsScale p.curves p.limits (ink_place ink) (by_ink c.of.result c.of-2.result c.of-3.result c.of-4.result ink) in
    record {
      made = subst P (sym c.p.view_is) (scales_are c.args.p.now.curves c.args.p.now.limits
          c.of.result c.of-2.result c.of-3.result c.of-4.result c.of.ensures c.of-2.ensures c.of-3.ensures c.of-4.ensures);
    }
