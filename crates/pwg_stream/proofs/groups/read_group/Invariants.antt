use Rattle.std.proofs.Common.{◌≤◌}
use Rattle.buffered_bytes.specs.Text.{text_behind}
use Rattle.pwg_stream.proofs.Grouping.{InGroup}
use Rattle.pwg_stream.proofs.groups.read_group.Given as goal

abbrev pub invariant-pieces : goal.invariant-pieces
invariant-pieces g l = record {
  group : InGroup l.fn.lines l.lines (text_behind l.fn.unread (g.S.Source.left l.fn.source)) (text_behind l.unread (g.S.Source.left l.source))
      l.unread l.turn;
  later : g.S.Source.faults l.fn.source ≤ g.S.Source.faults l.source;
}
