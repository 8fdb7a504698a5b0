use Rattle.std.proofs.Common.{◌≤◌, length, vec_capacity}
use Rattle.base_definitions.specs.Limits.{most_row_bytes}
use Rattle.page_writer.specs.Outlets.{outlet_of}
use Rattle.page_writer.specs.Pieces.{HasRoom, SendsStrokes}
use Rattle.page_writer.proofs.alone.put_alone.Given as goal

abbrev pub invariant-strokes : goal.invariant-strokes
invariant-strokes g l = record {
  sent : SendsStrokes (g.S.Strokes.page l.page) 0 0 l.stroke (outlet_of (g.K.Sink.held l.fn.sink) l.fn.waiting.items)
      (outlet_of (g.K.Sink.held l.sink) l.waiting.items) l.sent;
  room : HasRoom (g.S.Strokes.page l.page) l.coded;
  row : most_row_bytes ≤ length l.row;
  capacity : vec_capacity l.fn.waiting ≤ vec_capacity l.waiting;
  later : g.K.Sink.faults l.fn.sink ≤ g.K.Sink.faults l.sink;
}
