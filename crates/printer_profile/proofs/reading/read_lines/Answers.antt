use Rattle.std.proofs.Common.{◌≡◌, length, refl, ap, sym, ◌∙◌, arith}
use Rattle.std.proofs.lemmas.Bool.Decides.{nat_tests}
use Rattle.printer_profile.specs.Text.{with_lines}
use Rattle.printer_profile.proofs.TextLemmas.{lines_more, lines_fault, lines_done}
use Rattle.printer_profile.proofs.reading.read_lines.Goals as goal

pub lines-init : goal.lines-init
lines-init c = rw c.nothing-given.ensures refl

pub returns-in-Err : goal.returns-in-Err
returns-in-Err c =
    sym (c.lines.invariant ∙ ap (with_lines c.args.version c.lines.number c.lines.given) c.first_line.ensures.lines
    ∙ lines_fault c.args.version c.lines.number c.lines.given _ _ (sym c.with_line.ensures ∙ c.in-Err.is))

pub lines-preserved : goal.lines-preserved
lines-preserved c =
    c.lines.invariant ∙ ap (with_lines c.args.version c.lines.number c.lines.given) c.first_line.ensures.lines
    ∙ lines_more c.args.version c.lines.number c.lines.given _ _ (sym c.with_line.ensures ∙ c.in-Ok.is)
    ∙ rw c.saturating_add-number.ensures refl

pub returns : goal.returns
returns c =
    let empty : length c.lines.rest.now ≡ 0 = grind (arith, nat_tests, c.is_empty.ensures, c.lines-test.false) in
    sym (c.lines.invariant ∙ lines_done c.args.version _ _ c.lines.rest.now empty)
