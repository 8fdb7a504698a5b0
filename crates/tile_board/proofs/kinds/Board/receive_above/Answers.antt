use Rattle.std.proofs.Common.{ℤ, ◌+◌, ◌-◌, ◌*◌, ◌<◌, ◌≤◌, List, [], get_or, ap, sym, ◌∙◌, inl, inr, arith}
use Rattle.tile_shape.specs.Geometry.{columns_of}
use Rattle.tile_shape.specs.declared.tiles.Dir.TheVariants.{Bottom}
use Rattle.tile_shape.specs.declared.tiles.Place.{Place}
use Rattle.tile_board.specs.Board.{slab}
use Rattle.tile_board.specs.Slabs.{number_in, shape_of}
use Rattle.tile_board.proofs.Handed.{content-is, handed-by, handed-last, handed-top}
use Rattle.tile_board.proofs.Hands.{blank-is, bottom_in, came, next-cell, next-front, stayed}
use Rattle.tile_board.proofs.Numbers.{above-source, no-above}
use Rattle.tile_board.proofs.Shapes.{columns-is, top-of}
use Rattle.tile_board.proofs.kinds.Board.receive_above.Goals as goal

pub returns-then-t-columns-clause-edge : goal.returns-then-t-columns-clause-edge
returns-then-t-columns-clause-edge g c =
    let b = slab c.args.self.now in
    let top = top-of c.args.self.now in
    let columns = columns-is c.args.self.now c.shape.result c.columns-columns.result c.shape.ensures.is c.columns-columns.ensures in
    let last : columns_of (shape_of b) ≤ c.args.t.c + 1 = let h = c.if-t-columns.true in omega arith in
    let none = no-above (shape_of b) c.args.t c.requires.tile (inr last) in
    handed-last b c.args.t c.bottom_of.result top.columns last
    (ap bottom_in (sym c.bottom_of.ensures ∙ blank-is b 1 (number_in b c.args.t) c.args.blank c.requires.blank none))

pub bottom_of-requires : goal.bottom_of-requires
bottom_of-requires g c =
    let b = slab c.args.self.now in
    let columns = columns-is c.args.self.now c.shape.result c.columns-columns.result c.shape.ensures.is c.columns-columns.ensures in
    let last : columns_of (shape_of b) ≤ c.args.t.c + 1 = let h = c.if-t-columns.true in omega arith in
    (_, blank-is b 1 (number_in b c.args.t) c.args.blank c.requires.blank (no-above (shape_of b) c.args.t c.requires.tile (inr last)))

pub bottom_of-above-requires : goal.bottom_of-above-requires
bottom_of-above-requires g c =
    let b = slab c.args.self.now in (
      _,
      blank-is b 1 (number_in b c.args.t) c.args.blank c.requires.blank
          (no-above (shape_of b) c.args.t c.requires.tile (inl c.if-t-eq0.true)),
    )

pub returns-then-t-columns-clause-takes : goal.returns-then-t-columns-clause-takes
returns-then-t-columns-clause-takes g c =
    let b = slab c.args.self.now in
    let columns = columns-is c.args.self.now c.shape.result c.columns-columns.result c.shape.ensures.is c.columns-columns.ensures in
    let last : columns_of (shape_of b) ≤ c.args.t.c + 1 = let h = c.if-t-columns.true in omega arith in
    stayed b 1 (number_in b c.args.t) c.args.seat.now.me (no-above (shape_of b) c.args.t c.requires.tile (inr last))

pub returns-then-t-eq0-clause-edge : goal.returns-then-t-eq0-clause-edge
returns-then-t-eq0-clause-edge g c =
    let b = slab c.args.self.now in
    let columns = columns-is c.args.self.now c.shape.result c.columns-columns.result c.shape.ensures.is c.columns-columns.ensures in
    let there : c.args.t.c + 1 < columns_of (shape_of b) = let h = c.if-t-columns.false in let k = c.requires.tile.column in omega arith in
    handed-top b c.args.t _ (top-of c.args.self.now) c.if-t-eq0.true there
    (c.copy_edge.ensures ∙ c.at.ensures
    ∙ ap (λ (top : List (List (List ℤ))). get_or top (c.args.t.c + 1) []) (sym c.args.self.now.made_for.2))

pub returns-then-t-eq0-clause-takes : goal.returns-then-t-eq0-clause-takes
returns-then-t-eq0-clause-takes g c =
    let b = slab c.args.self.now in
    stayed b 1 (number_in b c.args.t) c.args.seat.now.me (no-above (shape_of b) c.args.t c.requires.tile (inl c.if-t-eq0.true))

pub take_out-requires-clause-front : goal.take_out-requires-clause-front
take_out-requires-clause-front g c =
    let b = slab c.args.self.now in
    let p : Place = record { c = c.args.t.c + 1; j = c.args.t.j - 1 } in
    let columns = columns-is c.args.self.now c.shape.result c.columns-columns.result c.shape.ensures.is c.columns-columns.ensures in
    let there : c.args.t.c + 1 < columns_of (shape_of b) = let h = c.if-t-columns.false in let k = c.requires.tile.column in omega arith in
    let source = above-source (shape_of b) c.args.t c.requires.tile (let h = c.if-t-eq0.false in omega arith) there in
    next-front b 1 (number_in b c.args.t) (number_in b p) c.slot_of-slot.result c.args.seat.now.me.1
    source.number (c.slot_of-slot.ensures ∙ ap (λ n. 4 * n + 1) c.number.ensures.is) c.requires.next

pub bottom_of-requires-2 : goal.bottom_of-requires-2
bottom_of-requires-2 g c =
    let b = slab c.args.self.now in
    let p : Place = record { c = c.args.t.c + 1; j = c.args.t.j - 1 } in
    let columns = columns-is c.args.self.now c.shape.result c.columns-columns.result c.shape.ensures.is c.columns-columns.ensures in
    let there : c.args.t.c + 1 < columns_of (shape_of b) = let h = c.if-t-columns.false in let k = c.requires.tile.column in omega arith in
    let source = above-source (shape_of b) c.args.t c.requires.tile (let h = c.if-t-eq0.false in omega arith) there in (
      _,
      next-cell b 1 (number_in b c.args.t) (number_in b p) c.slot_of-slot.result _ _ _
          source.number (c.slot_of-slot.ensures ∙ ap (λ n. 4 * n + 1) c.number.ensures.is) c.requires.next c.take_out.ensures.taken
          ∙ content-is b 1 p source.tile,
    )

pub returns-clause-edge : goal.returns-clause-edge
returns-clause-edge g c =
    let b = slab c.args.self.now in
    let p : Place = record { c = c.args.t.c + 1; j = c.args.t.j - 1 } in
    let columns = columns-is c.args.self.now c.shape.result c.columns-columns.result c.shape.ensures.is c.columns-columns.ensures in
    let there : c.args.t.c + 1 < columns_of (shape_of b) = let h = c.if-t-columns.false in let k = c.requires.tile.column in omega arith in
    let source = above-source (shape_of b) c.args.t c.requires.tile (let h = c.if-t-eq0.false in omega arith) there in
    handed-by b Bottom c.args.t p c.bottom_of-2.result source (ap bottom_in (sym c.bottom_of-2.ensures
    ∙ next-cell b 1 (number_in b c.args.t) (number_in b p) c.slot_of-slot.result _ _ _
    source.number (c.slot_of-slot.ensures ∙ ap (λ n. 4 * n + 1) c.number.ensures.is) c.requires.next c.take_out.ensures.taken
    ∙ content-is b 1 p source.tile))

pub returns-clause-takes : goal.returns-clause-takes
returns-clause-takes g c =
    let b = slab c.args.self.now in
    let p : Place = record { c = c.args.t.c + 1; j = c.args.t.j - 1 } in
    let columns = columns-is c.args.self.now c.shape.result c.columns-columns.result c.shape.ensures.is c.columns-columns.ensures in
    let there : c.args.t.c + 1 < columns_of (shape_of b) = let h = c.if-t-columns.false in let k = c.requires.tile.column in omega arith in
    let source = above-source (shape_of b) c.args.t c.requires.tile (let h = c.if-t-eq0.false in omega arith) there in
    came b 1 (number_in b c.args.t) (number_in b p) c.slot_of-slot.result _ _ _ source.number
    (c.slot_of-slot.ensures ∙ ap (λ n. 4 * n + 1) c.number.ensures.is) c.take_out.ensures.taken
