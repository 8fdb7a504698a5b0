use Rattle.std.proofs.Common.{◌-◌, ◌+◌, ◌*◌, ◌/◌, ◌≤◌, ◌++◌, vec_capacity, vec_len}
use Rattle.page_definitions.specs.PageBytes.{page_coding}
use Rattle.page_definitions.specs.Strokes.{bytes_of}
use Rattle.page_writer.specs.Heads.{stroke_rows}
use Rattle.page_writer.specs.Rows.{rows_commands}
use Rattle.page_writer.proofs.Fires.{RowsSoFar}
use Rattle.page_writer.proofs.ink.append_ink.Given as goal

abbrev pub invariant-rows : goal.invariant-rows
invariant-rows g l = record {
  so_far : RowsSoFar ((g.H.Head.strokes l.head).row l.planes l.stroke l.place)
      (l.fn.out.items ++ bytes_of page_coding.code (rows_commands l.fn.header l.fn.ink
      (stroke_rows (g.H.Head.strokes l.head) l.planes l.stroke l.place))) l.out.items l.nozzle (l.fn.header.m - l.nozzle);
  space : vec_len l.out + 2 * (l.fn.header.m - l.nozzle) * ((l.fn.header.n + 7) / 8) ≤ vec_capacity l.out;
  most : vec_len l.out + 2 * (l.fn.header.m - l.nozzle) * ((l.fn.header.n + 7) / 8)
      ≤ vec_len l.fn.out + (12 + 2 * l.fn.header.m * ((l.fn.header.n + 7) / 8));
  capacity : vec_capacity l.fn.out ≤ vec_capacity l.out;
}
