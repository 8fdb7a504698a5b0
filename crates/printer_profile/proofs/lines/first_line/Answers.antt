use Rattle.std.proofs.Common.{ℕ, List, ◌∷◌, ap, sym, ◌∙◌}
use Rattle.std.specs.Str.Lines.{lines}
use Rattle.printer_profile.proofs.LineParts.{first_of_lines, last_of_lines}
use Rattle.printer_profile.proofs.lines.first_line.Goals as goal

pub returns-in-Some-clause-lines : goal.returns-in-Some-clause-lines
returns-in-Some-clause-lines c =
    let cut = c.in-Some.ensures in
    first_of_lines c.args.text.now c.in-Some.line.now c.in-Some.rest.now cut.0 cut.1 cut.2
    ∙ ap (λ (line : List ℕ). line ∷ lines c.in-Some.rest.now) (sym c.without_return.ensures)

pub returns-in-None-clause-lines : goal.returns-in-None-clause-lines
returns-in-None-clause-lines c = last_of_lines c.args.text.now c.in-None.ensures c.requires
