use Rattle.std.proofs.Common.{◌≡◌, ◌+◌, ◌-◌, ◌≤◌}
use Rattle.std.specs.List.{flat_map}
use Rattle.base_definitions.specs.Counting.{count_from}
use Rattle.buffered_bytes.specs.Outside.{outside_of}
use Rattle.finish_core.specs.Sides.{Tells}
use Rattle.page_tally.specs.Lines.{progress_line}
use Rattle.finish_core.proofs.telling.tell_tenths.Given as goal

abbrev pub invariant-tenths : goal.invariant-tenths
invariant-tenths g l = record {
  none : l.tenth-end ≤ l.first → l.tenth ≡ l.first;
  tells : Tells (outside_of g.E.Sink.held g.E.Sink.faults l.fn.err l.err)
      (flat_map (progress_line l.before) (count_from (l.first + 1) (l.tenth - l.first)));
  later : g.E.Sink.faults l.fn.err ≤ g.E.Sink.faults l.err;
}
