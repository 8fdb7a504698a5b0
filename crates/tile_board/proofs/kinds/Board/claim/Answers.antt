use Rattle.std.proofs.Common.{◌≡◌, true, false, ap, sym, ◌∙◌, subst}
use Rattle.atomic_table.specs.Table.{Me}
use Rattle.board_steps.specs.declared.rule.Cell.{Cell}
use Rattle.board_steps.specs.declared.rule.View.{View}
use Rattle.tile_board.specs.Board.{Gets, slab}
use Rattle.tile_board.proofs.Claims.{gets, gone-first, gone-second, looked-ok, not-ready, ready-for, told-at, took-at}
use Rattle.tile_board.proofs.Shapes.{needs-of}
use Rattle.tile_board.proofs.kinds.Board.claim.Goals as goal

pub returns-then-word-eq1-clause-claim : goal.returns-then-word-eq1-clause-claim
returns-then-word-eq1-clause-claim g c =
    let b = slab c.args.self.now in
    let told = told-at c.args.t c.number-at.ensures.is c.requires.pass.1 c.look-word.ensures.looked in
    gone-first b c.args.t c.look-word.result _ _ c.requires.idle told c.if-word-eq1.true

pub returns-then-lacks_edge-clause-claim : goal.returns-then-lacks_edge-clause-claim
returns-then-lacks_edge-clause-claim g c =
    let b = slab c.args.self.now in
    let told = told-at c.args.t c.number-at.ensures.is c.requires.pass.1 c.look-word.ensures.looked in
    let of = needs-of c.args.self.now c.shape.ensures.is c.needs.ensures.left c.needs.ensures.above c.needs.ensures.corner in
    not-ready b c.args.t c.needs.result c.look-word.result _ _ c.requires.tile of c.requires.idle told c.if-word-eq1.false
    (c.lacks_edge.ensures.0 c.if-lacks_edge.true)

pub take-word-requires-clause-ready : goal.take-word-requires-clause-ready
take-word-requires-clause-ready g c =
    let b = slab c.args.self.now in
    let told = told-at c.args.t c.number-at.ensures.is c.requires.pass.1 c.look-word.ensures.looked in
    let of = needs-of c.args.self.now c.shape.ensures.is c.needs.ensures.left c.needs.ensures.above c.needs.ensures.corner in
    ready-for b c.args.t c.needs.result c.number-at.result c.look-word.result _ _ c.number-at.ensures.is c.requires.tile of told
    (λ lacks. let h : true ≡ false = sym (c.lacks_edge.ensures.1 lacks) ∙ c.if-lacks_edge.false in cc)

pub invariant_of-p-then-word-eq1-2 : goal.invariant_of-p-then-word-eq1-2
invariant_of-p-then-word-eq1-2 g c =
    let p = c.args.p.now in
    let ok =
    looked-ok p.parts p.held c.number-at.result c.look-word.result c.take-word.result p.seat.me c.look-word.new.seat.me
    c.take-word.new.seat.me
    c.look-word.ensures.looked.0 (c.take-word.ensures.took.gone c.if-word-eq1-2.true)
    (record { counted = p.counted; shown = p.shown; inside = p.inside; hand = p.hand; unsent = p.unsent }) in
    record { counted = ok.counted; shown = ok.shown; inside = ok.inside; hand = ok.hand; unsent = ok.unsent }

pub returns-then-word-eq1-2-clause-claim : goal.returns-then-word-eq1-2-clause-claim
returns-then-word-eq1-2-clause-claim g c =
    let b = slab c.args.self.now in
    let told = told-at c.args.t c.number-at.ensures.is c.requires.pass.1 c.look-word.ensures.looked in
    let took = took-at c.args.t c.number-at.ensures.is
    (ap (λ (z : Me Cell View). z.0.board) c.look-word.ensures.looked.0 ∙ c.requires.pass.1) c.take-word.ensures.took in
    gone-second b c.args.t c.look-word.result c.take-word.result _ _ _ c.requires.idle told took c.if-word-eq1-2.true

pub returns-clause-claim : goal.returns-clause-claim
returns-clause-claim g c =
    let b = slab c.args.self.now in
    let told = told-at c.args.t c.number-at.ensures.is c.requires.pass.1 c.look-word.ensures.looked in
    let took = took-at c.args.t c.number-at.ensures.is
    (ap (λ (z : Me Cell View). z.0.board) c.look-word.ensures.looked.0 ∙ c.requires.pass.1) c.take-word.ensures.took in
    let Q : View → Type 0 = λ w. Gets b c.args.p.now.seat.me.0 c.args.t w in (
      subst Q (sym (ap (λ (z : Me Cell View). z.0) c.receive.ensures.hand))
          (gets b c.args.t c.look-word.result c.take-word.result _ _ _ told took c.if-word-eq1-2.false),
      c.receive.ensures.place,
      c.receive.ensures.task,
    )
