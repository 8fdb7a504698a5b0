use Rattle.std.proofs.Common.{◌+◌, ◌-◌, ◌*◌, ap, sym, ◌∙◌, arith}
use Rattle.tile_shape.specs.declared.tiles.Dir.TheVariants.{Right}
use Rattle.tile_shape.specs.declared.tiles.Place.{Place}
use Rattle.tile_board.specs.Board.{slab}
use Rattle.tile_board.specs.Slabs.{number_in, shape_of}
use Rattle.tile_board.proofs.Handed.{content-is, handed-by, handed-first}
use Rattle.tile_board.proofs.Hands.{blank-is, came, next-cell, next-front, right_in, stayed}
use Rattle.tile_board.proofs.Numbers.{left-source, no-left}
use Rattle.tile_board.proofs.kinds.Board.receive_left.Goals as goal

pub returns-then-t-eq0-clause-edge : goal.returns-then-t-eq0-clause-edge
returns-then-t-eq0-clause-edge g c =
    let b = slab c.args.self.now in
    let none = no-left (shape_of b) c.args.t c.requires.tile c.if-t-eq0.true in
    handed-first b c.args.t c.right_of.result c.if-t-eq0.true
    (ap right_in (sym c.right_of.ensures ∙ blank-is b 0 (number_in b c.args.t) c.args.blank c.requires.blank none))

pub right_of-requires : goal.right_of-requires
right_of-requires g c =
    let b = slab c.args.self.now in
    (_, blank-is b 0 (number_in b c.args.t) c.args.blank c.requires.blank (no-left (shape_of b) c.args.t c.requires.tile c.if-t-eq0.true))

pub returns-then-t-eq0-clause-takes : goal.returns-then-t-eq0-clause-takes
returns-then-t-eq0-clause-takes g c =
    stayed (slab c.args.self.now) 0 (number_in (slab c.args.self.now) c.args.t) c.args.seat.now.me
    (no-left (shape_of (slab c.args.self.now)) c.args.t c.requires.tile c.if-t-eq0.true)

pub take_out-requires-clause-front : goal.take_out-requires-clause-front
take_out-requires-clause-front g c =
    let b = slab c.args.self.now in
    let p : Place = record { c = c.args.t.c - 1; j = c.args.t.j } in
    let source = left-source (shape_of b) c.args.t c.requires.tile (let h = c.if-t-eq0.false in omega arith) in
    next-front b 0 (number_in b c.args.t) (number_in b p) c.slot_of-slot.result c.args.seat.now.me.1
    source.number (c.slot_of-slot.ensures ∙ ap (λ n. 4 * n + 0) c.number.ensures.is) c.requires.next

pub right_of-requires-2 : goal.right_of-requires-2
right_of-requires-2 g c =
    let b = slab c.args.self.now in
    let p : Place = record { c = c.args.t.c - 1; j = c.args.t.j } in
    let source = left-source (shape_of b) c.args.t c.requires.tile (let h = c.if-t-eq0.false in omega arith) in (
      _,
      next-cell b 0 (number_in b c.args.t) (number_in b p) c.slot_of-slot.result _ _ _
          source.number (c.slot_of-slot.ensures ∙ ap (λ n. 4 * n + 0) c.number.ensures.is) c.requires.next c.take_out.ensures.taken
          ∙ content-is b 0 p source.tile,
    )

pub returns-clause-edge : goal.returns-clause-edge
returns-clause-edge g c =
    let b = slab c.args.self.now in
    let p : Place = record { c = c.args.t.c - 1; j = c.args.t.j } in
    let source = left-source (shape_of b) c.args.t c.requires.tile (let h = c.if-t-eq0.false in omega arith) in
    handed-by b Right c.args.t p c.right_of-2.result source (ap right_in (sym c.right_of-2.ensures
    ∙ next-cell b 0 (number_in b c.args.t) (number_in b p) c.slot_of-slot.result _ _ _
    source.number (c.slot_of-slot.ensures ∙ ap (λ n. 4 * n + 0) c.number.ensures.is) c.requires.next c.take_out.ensures.taken
    ∙ content-is b 0 p source.tile))

pub returns-clause-takes : goal.returns-clause-takes
returns-clause-takes g c =
    let b = slab c.args.self.now in
    let p : Place = record { c = c.args.t.c - 1; j = c.args.t.j } in
    let source = left-source (shape_of b) c.args.t c.requires.tile (let h = c.if-t-eq0.false in omega arith) in
    came b 0 (number_in b c.args.t) (number_in b p) c.slot_of-slot.result _ _ _ source.number
    (c.slot_of-slot.ensures ∙ ap (λ n. 4 * n + 0) c.number.ensures.is) c.take_out.ensures.taken
