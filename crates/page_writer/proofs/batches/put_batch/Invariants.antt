use Rattle.std.proofs.Common.{◌≡◌, ◌-◌, ◌≤◌, length, vec_capacity}
use Rattle.page_writer.specs.Outlets.{outlet_of}
use Rattle.page_writer.specs.Pieces.{Each, IsFilled, IsRoomy, SendsStrokes, bound_of}
use Rattle.page_writer.proofs.batches.put_batch.Given as goal

abbrev pub invariant-pieces : goal.invariant-pieces
invariant-pieces g l = record {
  run : l.batch.run ≡ l.fn.batch.run;
  many : length l.batch.coders.items ≡ length l.fn.batch.coders.items;
  pieces : Each (λ k coder. IsRoomy (g.S.Strokes.page l.page) l.run.each (g.S.Strokes.page coder.page.now) coder.piece
      × (l.i ≤ k → IsFilled (g.S.Strokes.page l.page) l.run k (g.S.Strokes.page coder.page.now) coder.piece))
      l.batch.coders.items;
  sent : SendsStrokes (g.S.Strokes.page l.page) l.last l.run.first (bound_of l.run l.i - l.run.first)
      (outlet_of (g.K.Sink.held l.fn.sink) l.fn.waiting.items)
      (outlet_of (g.K.Sink.held l.sink) l.waiting.items) l.sent;
  capacity : vec_capacity l.fn.waiting ≤ vec_capacity l.waiting;
  later : g.K.Sink.faults l.fn.sink ≤ g.K.Sink.faults l.sink;
}
