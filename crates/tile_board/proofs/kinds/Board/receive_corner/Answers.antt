use Rattle.std.proofs.Common.{ℤ, pos, ◌+◌, ◌-◌, ◌*◌, List, [], get_or, length, replicate, ap, sym, ◌∙◌, arith}
use Rattle.std.proofs.lemmas.List.{length-replicate}
use Rattle.tile_shape.specs.declared.tiles.Dir.TheVariants.{Corner}
use Rattle.tile_shape.specs.declared.tiles.Place.{Place}
use Rattle.tile_board.specs.Board.{slab}
use Rattle.tile_board.specs.Slabs.{amounts_of, number_in, shape_of}
use Rattle.tile_board.proofs.Handed.{content-is, handed-by, handed-end}
use Rattle.tile_board.proofs.Hands.{blank-is, came, corner_in, next-cell, next-front}
use Rattle.tile_board.proofs.Numbers.{corner-source, no-corner}
use Rattle.tile_board.proofs.Shapes.{top-of}
use Rattle.tile_board.proofs.kinds.Board.receive_corner.Goals as goal

pub corner_of-corner-requires : goal.corner_of-corner-requires
corner_of-corner-requires g c =
    let b = slab c.args.self.now in (
      _,
      blank-is b 2 (number_in b c.args.t) c.args.blank c.requires.blank
          (no-corner (shape_of b) c.args.t c.requires.tile c.if-t-eq0.true),
    )

pub returns-then-t-eq0-clause-edge : goal.returns-then-t-eq0-clause-edge
returns-then-t-eq0-clause-edge g c =
    let b = slab c.args.self.now in
    let none = no-corner (shape_of b) c.args.t c.requires.tile c.if-t-eq0.true in
    let blank = ap corner_in (sym c.corner_of-corner.ensures ∙ blank-is b 2 (number_in b c.args.t) c.args.blank c.requires.blank none) in
    handed-end b c.args.t _ c.corner_of-corner.result _ (top-of c.args.self.now) c.if-t-eq0.true c.requires.tile.column
    (c.at.ensures ∙ ap (λ (top : List (List (List ℤ))). get_or top c.args.t.c []) (sym c.args.self.now.made_for.2))
    (ap length blank ∙ length-replicate (amounts_of b).inks (replicate 12 (pos 0))) c.cut_ends.ensures

pub take_out-requires-clause-front : goal.take_out-requires-clause-front
take_out-requires-clause-front g c =
    let b = slab c.args.self.now in
    let p : Place = record { c = c.args.t.c; j = c.args.t.j - 1 } in
    let source = corner-source (shape_of b) c.args.t c.requires.tile (let h = c.if-t-eq0.false in omega arith) in
    next-front b 2 (number_in b c.args.t) (number_in b p) c.slot_of-slot.result c.args.seat.now.me.1
    source.number (c.slot_of-slot.ensures ∙ ap (λ n. 4 * n + 2) c.number.ensures.is) c.requires.next

pub corner_of-requires : goal.corner_of-requires
corner_of-requires g c =
    let b = slab c.args.self.now in
    let p : Place = record { c = c.args.t.c; j = c.args.t.j - 1 } in
    let source = corner-source (shape_of b) c.args.t c.requires.tile (let h = c.if-t-eq0.false in omega arith) in (
      _,
      next-cell b 2 (number_in b c.args.t) (number_in b p) c.slot_of-slot.result _ _ _
          source.number (c.slot_of-slot.ensures ∙ ap (λ n. 4 * n + 2) c.number.ensures.is) c.requires.next c.take_out.ensures.taken
          ∙ content-is b 2 p source.tile,
    )

pub returns-clause-edge : goal.returns-clause-edge
returns-clause-edge g c =
    let b = slab c.args.self.now in
    let p : Place = record { c = c.args.t.c; j = c.args.t.j - 1 } in
    let source = corner-source (shape_of b) c.args.t c.requires.tile (let h = c.if-t-eq0.false in omega arith) in
    handed-by b Corner c.args.t p c.corner_of.result source (ap corner_in (sym c.corner_of.ensures
    ∙ next-cell b 2 (number_in b c.args.t) (number_in b p) c.slot_of-slot.result _ _ _
    source.number (c.slot_of-slot.ensures ∙ ap (λ n. 4 * n + 2) c.number.ensures.is) c.requires.next c.take_out.ensures.taken
    ∙ content-is b 2 p source.tile))

pub returns-clause-takes : goal.returns-clause-takes
returns-clause-takes g c =
    let b = slab c.args.self.now in
    let p : Place = record { c = c.args.t.c; j = c.args.t.j - 1 } in
    let source = corner-source (shape_of b) c.args.t c.requires.tile (let h = c.if-t-eq0.false in omega arith) in
    came b 2 (number_in b c.args.t) (number_in b p) c.slot_of-slot.result _ _ _ source.number
    (c.slot_of-slot.ensures ∙ ap (λ n. 4 * n + 2) c.number.ensures.is) c.take_out.ensures.taken
