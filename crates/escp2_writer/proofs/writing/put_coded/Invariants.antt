use Rattle.std.proofs.Common.{◌≡◌, ◌-◌, ◌*◌, ◌≤◌, ◌++◌, length}
use Rattle.escp2_definitions.specs.Commands.{row_bytes}
use Rattle.buffered_bytes.specs.Gathering.{gathered}
use Rattle.buffered_bytes.proofs.Writing.{PutsSoFar}
use Rattle.escp2_writer.proofs.Coding.{codes}
use Rattle.escp2_writer.proofs.writing.put_coded.Given as goal

abbrev pub invariant-rows : goal.invariant-rows
invariant-rows g l = record {
  so_far : PutsSoFar (g.K.Sink.held l.fn.out) (g.K.Sink.held l.out)
      (l.fn.front ++ codes l.fn.header.m (row_bytes l.fn.header) l.fn.rows) (gathered l.bytes)
      (codes (l.fn.header.m - l.counter) (row_bytes l.fn.header) l.rest);
  left : length l.rest ≡ (l.fn.header.m - l.counter) * row_bytes l.fn.header;
  later : g.K.Sink.faults l.fn.out ≤ g.K.Sink.faults l.out;
}
