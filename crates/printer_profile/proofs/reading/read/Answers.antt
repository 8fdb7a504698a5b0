use Rattle.std.proofs.Common.{Err, ap, sym, ◌∙◌, arith}
use Rattle.std.proofs.lemmas.Result.{err_from_is_err_and}
use Rattle.std.proofs.lemmas.Bool.Decides.{nat_tests}
use Rattle.printer_profile.specs.Text.{profile_given}
use Rattle.printer_profile.proofs.TextLemmas.{lines_end, text_bad_head, text_empty}
use Rattle.printer_profile.proofs.reading.read.Goals as goal

pub returns-then-is_empty : goal.returns-then-is_empty
returns-then-is_empty c = text_empty _ (grind (arith, nat_tests, c.is_empty.ensures, c.if-is_empty.true))

pub returns-in_default : goal.returns-in_default
returns-in_default c =
    text_bad_head _ c.first_line.result.0.now _ c.first_line.ensures.lines (sym c.with_head.ensures ∙ c.in_default.is)

pub returns-in_err-read_lines : goal.returns-in_err-read_lines
returns-in_err-read_lines c =
    let fault = err_from_is_err_and c.from_residual.result c.from_residual.ensures.1 in
    lines_end c.in-Some.version _ c.first_line.result.0.now _ _ _ c.first_line.ensures.lines (sym c.with_head.ensures ∙ c.in-Some.is)
    c.read_lines.ensures (rw c.in_err-read_lines.was (fault.1 ∙ ap Err fault.2))

pub returns : goal.returns
returns c =
    lines_end c.in-Some.version _ c.first_line.result.0.now _ _ _ c.first_line.ensures.lines (sym c.with_head.ensures ∙ c.in-Some.is)
    c.read_lines.ensures (c.profile.ensures ∙ ap profile_given (sym c.in_ok-read_lines.was))
