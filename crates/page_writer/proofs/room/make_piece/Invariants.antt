use Rattle.std.proofs.Common.{◌≡◌, ◌≤◌, length, vec_capacity}
use Rattle.page_writer.specs.Pieces.{Each}
use Rattle.page_writer.specs.declared.coded.Coded.{Coded}
use Rattle.page_writer.proofs.room.make_piece.Given as goal

abbrev pub invariant-strokes : goal.invariant-strokes
invariant-strokes l = record {
  many : length l.strokes.items ≡ l.counter;
  few : l.counter ≤ l.each;
  room : Each (λ k (coded : Coded). l.most ≤ vec_capacity coded.code) l.strokes.items;
  space : l.each ≤ vec_capacity l.strokes;
}
