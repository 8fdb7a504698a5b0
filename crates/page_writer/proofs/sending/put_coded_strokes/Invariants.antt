use Rattle.std.proofs.Common.{ℕ, ◌+◌, ◌-◌, ◌<◌, ◌≤◌, vec_capacity, slice_index_or}
use Rattle.page_writer.specs.Outlets.{outlet_of}
use Rattle.page_writer.specs.Pieces.{AllRoomy, IsCoded, SendsStrokes}
use Rattle.page_writer.specs.declared.coded.Coded.{Coded}
use Rattle.page_writer.proofs.sending.put_coded_strokes.Given as goal

abbrev pub invariant-strokes : goal.invariant-strokes
invariant-strokes g l = record {
  sent : SendsStrokes (g.S.Strokes.page l.page) l.last l.first (l.stroke - l.first)
      (outlet_of (g.K.Sink.held l.fn.sink) l.fn.waiting.items)
      (outlet_of (g.K.Sink.held l.sink) l.waiting.items) l.sent;
  coded : (k : ℕ) (d : Coded) → l.stroke ≤ l.first + k → l.first + k < l.end
      → IsCoded (g.S.Strokes.page l.page) (l.first + k) (slice_index_or l.strokes k d);
  room : AllRoomy (g.S.Strokes.page l.page) l.strokes;
  capacity : vec_capacity l.fn.waiting ≤ vec_capacity l.waiting;
  later : g.K.Sink.faults l.fn.sink ≤ g.K.Sink.faults l.sink;
}
