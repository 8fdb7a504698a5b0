use Rattle.std.proofs.Common.{◌*◌, ap, ◌∙◌, sym, arith}
use Rattle.escp2_rows.proofs.Steps.{coded_begins, plain_begins}
use Rattle.escp2_rows.proofs.reader.RowReader.begin.Goals as goal

pub returns-then-c-eq0-clause-anew : goal.returns-then-c-eq0-clause-anew
returns-then-c-eq0-clause-anew c = λ at. plain_begins _ _ _ c.if-c-eq0.true
    (ap (λ k. k * c.args.row_bytes) (sym c.from-count.ensures) ∙ ap (λ k. c.from-count.result * k) (sym c.from-width.ensures))

pub returns-clause-anew : goal.returns-clause-anew
returns-clause-anew c =
    λ at. coded_begins _ _ _ c.if-c-eq0.false (omega (arith, c.from-count.ensures, c.requires.some)) (sym c.from-width.ensures)
