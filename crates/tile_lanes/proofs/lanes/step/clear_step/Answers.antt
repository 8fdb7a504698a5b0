use Rattle.tile_lanes.proofs.LaneClears.{both_cleared}
use Rattle.tile_lanes.proofs.lanes.step.clear_step.Goals as goal

pub returns-clause-cleared : goal.returns-clause-cleared
returns-clause-cleared c = λ f.
    let last = c.entered_rows-last.ensures in
    let span = c.span_of-span.ensures in
    both_cleared c.args.pace c.args.place.c c.args.place.j c.args.step _ _
    span.order last.most last.inside last.left c.min.ensures c.min-2.ensures (span.inside f) (span.before f) (span.after f)
    c.clear_rows.ensures.cleared c.clear_rows-2.ensures.cleared
