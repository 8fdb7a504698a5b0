use Rattle.tile_border.proofs.InkSteps.{done_more, rest_more, whole_more}
use Rattle.tile_border.proofs.working.work_inks.Goals as goal

pub loop-ink-preserved : goal.loop-ink-preserved
loop-ink-preserved g c = record {
  inks = c.work_ink.ensures.inks _ c.loop-ink.invariant.inks;
  done = done_more _ _ _ c.loop-ink.ink _ _ _ c.work_ink.ensures c.loop-ink.invariant.done c.loop-ink.invariant.rest;
  whole = whole_more _ _ _ c.loop-ink.ink _ _ c.work_ink.ensures c.ink_is_whole.ensures c.loop-ink.invariant.whole;
  rest = rest_more _ _ _ c.loop-ink.ink _ _ _ c.work_ink.ensures c.loop-ink.invariant.rest;
}
