use Rattle.std.proofs.Common.{Some, ap, sym, ◌∙◌}
use Rattle.atomic_table.specs.Table.{Me}
use Rattle.board_steps.specs.Rule.{has}
use Rattle.board_steps.specs.Steps.{index_of}
use Rattle.board_steps.specs.declared.rule.Cell.{Cell}
use Rattle.board_steps.specs.declared.rule.View.{View}
use Rattle.tile_board.specs.Board.{slab}
use Rattle.tile_board.specs.Slabs.{number_in, shape_of}
use Rattle.board_core.proofs.Numbers.{number_below}
use Rattle.board_steps.proofs.Places.{gives_next}
use Rattle.tile_board.proofs.Numbers.{next-none}
use Rattle.tile_board.proofs.Posts.{kept-gives, put-front, sent-gives, slot-at}
use Rattle.tile_board.proofs.Shapes.{none-there, tile-there}
use Rattle.tile_board.proofs.kinds.Board.give.Goals as goal

pub send-requires-clause-edge : goal.send-requires-clause-edge
send-requires-clause-edge g c =
    let b = slab c.args.self.now in
    let there = tile-there c.args.self.now c.shape.result c.in-Some.to c.shape.ensures.is c.in-Some.ensures.receiver.0 in
    record {
      from = number_in b c.args.t;
      inside = number_below (shape_of b) c.args.t c.requires.tile;
      holds = ap (λ (z : Me Cell View). z.0.held) c.exchange.ensures.3 ∙ c.requires.holds;
      unsent = ap (λ (z : Me Cell View). has (index_of c.args.dir) z.0.sent) c.exchange.ensures.3 ∙ c.requires.unsent;
      goes = gives_next (shape_of b) c.args.t c.in-Some.to c.args.dir
          (record { source = c.requires.tile; receiver = there; goes = c.in-Some.ensures.receiver.1 })
          ∙ ap Some (sym c.number-in-Some.ensures.is);
      edge = put-front b (number_in b c.args.t) (index_of c.args.dir) c.slot_of-slot.result c.args.edge c.args.seat.now.me
          c.exchange.new.seat.me
          (slot-at _ _ _ _ _ c.slot_of-slot.ensures c.number.ensures.is c.way_of.ensures) c.requires.edge c.exchange.ensures.3;
    }

pub returns-in-Some-clause-gives : goal.returns-in-Some-clause-gives
returns-in-Some-clause-gives g c =
    let b = slab c.args.self.now in
    let there = tile-there c.args.self.now c.shape.result c.in-Some.to c.shape.ensures.is c.in-Some.ensures.receiver.0 in
    sent-gives b (number_in b c.args.t) (index_of c.args.dir) (number_in b c.in-Some.to) c.slot_of-slot.result c.args.edge _ _ _
    (gives_next (shape_of b) c.args.t c.in-Some.to c.args.dir
    (record { source = c.requires.tile; receiver = there; goes = c.in-Some.ensures.receiver.1 })) c.exchange.ensures.3
    c.send.ensures.sent

pub returns-in-None-clause-gives : goal.returns-in-None-clause-gives
returns-in-None-clause-gives g c =
    let b = slab c.args.self.now in
    kept-gives b (number_in b c.args.t) (index_of c.args.dir) c.slot_of-slot.result c.args.edge _ _ _
    (next-none (shape_of b) c.args.dir c.args.t c.requires.tile
    (none-there c.args.self.now c.shape.result c.args.dir c.args.t c.shape.ensures.is c.in-None.ensures.none))
    (slot-at _ _ _ _ _ c.slot_of-slot.ensures c.number.ensures.is c.way_of.ensures) c.requires.edge c.exchange.ensures.3 c.turn.ensures.2
