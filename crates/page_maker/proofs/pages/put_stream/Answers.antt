use Rattle.std.proofs.Common.{◌++◌, ◌∙◌, ap, sym}
use Rattle.std.proofs.lemmas.Bool.{eqb-true}
use Rattle.std.proofs.lemmas.List.{append-nil}
use Rattle.page_maker.proofs.Making.{to_come-done}
use Rattle.page_maker.proofs.pages.put_stream.Goals as goal

pub returns-clause-ok : goal.returns-clause-ok
returns-clause-ok c =
    let pieces = c.pieces.pieces in
    let none = to_come-done pieces.form pieces.hdpi pieces.vdpi pieces.pages pieces.lines pieces.draws.state
    (eqb-true _ _ (sym c.is_done.ensures ∙ c.pieces-test.false)) in
    sym (ap (λ bytes. c.pieces.out.items ++ bytes) none ∙ append-nil c.pieces.out.items) ∙ c.pieces.invariant.whole
