use Rattle.tile_board.specs.Board.{slab}
use Rattle.tile_board.proofs.Posts.{gave-cell, held-tile, may-post}
use Rattle.tile_board.proofs.kinds.Board.post.Goals as goal

pub give-requires-clause-edge : goal.give-requires-clause-edge
give-requires-clause-edge g c =
    let b = slab c.args.self.now in
    gave-cell b c.args.d 0 (held-tile b _ c.args.d.place c.args.p.now.seat.me.0 c.requires.pass.1 c.requires.held c.args.p.now.inside)
    c.requires.done c.args.d.whole

pub give-requires-2-clause-edge : goal.give-requires-2-clause-edge
give-requires-2-clause-edge g c =
    let b = slab c.args.self.now in
    gave-cell b c.args.d 1 (held-tile b _ c.args.d.place c.args.p.now.seat.me.0 c.requires.pass.1 c.requires.held c.args.p.now.inside)
    c.requires.done c.args.d.whole

pub give-requires-3-clause-edge : goal.give-requires-3-clause-edge
give-requires-3-clause-edge g c =
    let b = slab c.args.self.now in
    gave-cell b c.args.d 2 (held-tile b _ c.args.d.place c.args.p.now.seat.me.0 c.requires.pass.1 c.requires.held c.args.p.now.inside)
    c.requires.done c.args.d.whole

pub post-requires-clause-done : goal.post-requires-clause-done
post-requires-clause-done g c =
    let b = slab c.args.self.now in
    let p = c.args.p.now in
    let tile = held-tile b _ c.args.d.place p.seat.me.0 c.requires.pass.1 c.requires.held p.inside in
    may-post b c.args.d.place c.number-at.result c.slot_of.result _ p.held p.seat.me c.give.new.seat.me c.give-2.new.seat.me
    c.give-3.new.seat.me c.exchange.new.seat.me
    c.requires.pass.1 c.requires.held tile p.shown p.hand c.number-at.ensures.is c.slot_of.ensures
    c.give.ensures.gives c.give-2.ensures.gives c.give-3.ensures.gives c.exchange.ensures.3
    (gave-cell b c.args.d 3 tile c.requires.done c.args.d.whole)
