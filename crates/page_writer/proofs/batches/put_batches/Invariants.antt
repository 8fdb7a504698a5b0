use Rattle.std.proofs.Common.{◌≡◌, ◌+◌, ◌-◌, ◌≤◌, length, vec_capacity}
use Rattle.page_writer.specs.Outlets.{outlet_of}
use Rattle.page_writer.specs.Pieces.{Each, IsFilled, IsRoomy, SendsStrokes, bound_of}
use Rattle.page_writer.proofs.batches.put_batches.Given as goal

abbrev pub invariant-batches : goal.invariant-batches
invariant-batches g l = record {
  each : 1 ≤ l.each;
  count : l.count ≡ (g.S.Strokes.page l.page).head.count;
  ahead_each : l.ahead.run.each ≡ l.each;
  ahead_count : l.ahead.run.count ≡ l.count;
  ahead_low : l.ahead.run.first ≤ l.count;
  ahead_some : 1 ≤ length l.ahead.coders.items;
  ahead_few : length l.ahead.coders.items ≤ 64;
  ahead_room : Each (λ k coder. IsRoomy (g.S.Strokes.page l.page) l.each (g.S.Strokes.page coder.page.now) coder.piece)
      l.ahead.coders.items;
  each_is : l.behind.run.each ≡ l.each;
  low : l.behind.run.count ≤ l.count;
  first : l.behind.run.first ≤ l.behind.run.count;
  some : 1 ≤ length l.behind.coders.items;
  few : length l.behind.coders.items ≤ 64;
  filled : Each (λ k coder. IsFilled (g.S.Strokes.page l.page) l.behind.run k (g.S.Strokes.page coder.page.now) coder.piece)
      l.behind.coders.items;
  next : bound_of l.behind.run (length l.behind.coders.items) ≡ l.ahead.run.first;
  sent : SendsStrokes (g.S.Strokes.page l.page) 0 0 l.behind.run.first (outlet_of (g.K.Sink.held l.fn.sink) l.fn.waiting.items)
      (outlet_of (g.K.Sink.held l.sink) l.waiting.items) l.sent;
  capacity : vec_capacity l.fn.waiting ≤ vec_capacity l.waiting;
  later : g.K.Sink.faults l.fn.sink ≤ g.K.Sink.faults l.sink;
}

abbrev pub decreases-batches : goal.decreases-batches
decreases-batches g l = l.count - l.behind.run.first + (l.count - l.ahead.run.first)
