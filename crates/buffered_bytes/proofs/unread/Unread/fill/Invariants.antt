use Rattle.std.proofs.Common.{◌-◌, ◌≤◌, length}
use Rattle.std.specs.Io.KnownBytes.{Keeps}
use Rattle.buffered_bytes.specs.Text.{text_behind}
use Rattle.buffered_bytes.proofs.unread.Unread.fill.Given as goal

abbrev pub invariant-reads : goal.invariant-reads
invariant-reads g l = record {
  kept : Keeps (text_behind l.fn.self (g.S.Source.left l.fn.source)) (text_behind l.self (g.S.Source.left l.source));
  later : g.S.Source.faults l.fn.source ≤ g.S.Source.faults l.source;
}

abbrev pub decreases-reads : goal.decreases-reads
decreases-reads g l = l.need - length l.self
