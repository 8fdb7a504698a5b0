use Rattle.std.proofs.Common.{◌≡◌, ◌≤◌, length, vec_capacity}
use Rattle.page_writer.specs.Pieces.{Each, IsRoomy}
use Rattle.page_writer.proofs.room.make_coders.Given as goal

abbrev pub invariant-pieces : goal.invariant-pieces
invariant-pieces g l = record {
  many : length l.coders.items ≡ l.counter;
  few : l.counter ≤ l.cut.pieces;
  room : Each (λ k coder. IsRoomy (g.S.Strokes.page l.page) l.cut.each (g.S.Strokes.page coder.page.now) coder.piece) l.coders.items;
  space : l.cut.pieces ≤ vec_capacity l.coders;
}
