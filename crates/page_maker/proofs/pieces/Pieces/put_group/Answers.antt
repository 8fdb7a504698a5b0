use Rattle.std.proofs.Common.{◌≡◌, ◌+◌, ◌%◌, ◌∙◌, ap, arith, length, min}
use Rattle.std.proofs.lemmas.List.{take_at}
use Rattle.page_maker.proofs.Making.{IsGroupLine, group_line, group_put, on_ok}
use Rattle.page_maker.proofs.pieces.Pieces.put_group.Goals as goal

pub returns-clause-ok : goal.returns-clause-ok
returns-clause-ok c =
    let pieces = c.args.self.now in
    let sized : length c.fill_line.new.line ≡ pieces.line.len = omega arith in
    let filled : c.deref.result.now ≡ c.fill_line.new.line = c.deref.ensures.value ∙ take_at _ _ _ sized in
    let repeats : c.min-repeats.result ≡ min (1 + c.next.result % 4) pieces.lines = omega arith in
    let line : IsGroupLine pieces.form c.unit-unit.result pieces.lines pieces.draws.state c.min-repeats.result c.deref.result.now
    c.fill_line.new.draws.state =
    group_line pieces.form c.unit-unit.result pieces.lines pieces.draws.state c.next.result c.min-repeats.result c.next.new.self.state
    c.fill_line.new.draws.state c.deref_mut.result.now c.deref.result.now c.unit-unit.ensures.value c.next.ensures.byte repeats
    c.next.ensures.state (ap length c.deref_mut.ensures.value ∙ pieces.sized) pieces.formed
    (filled ∙ c.fill_line.ensures.bytes) c.fill_line.ensures.state in
    on_ok c.code_line.result
    (group_put pieces.form pieces.hdpi pieces.vdpi pieces.pages pieces.lines pieces.draws.state c.unit-unit.result c.min-repeats.result
    c.fill_line.new.draws.state c.args.out.now.items c.code_line.new.out.items c.deref.result.now c.requires line)
    c.code_line.ensures.ok
