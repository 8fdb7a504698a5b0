use Rattle.std.proofs.Common.{[], get_or}
use Rattle.ink_separation.proofs.Offsets.{offsets_more}
use Rattle.ink_separation.proofs.planes.put_colours.Goals as goal

pub loop-o-preserved : goal.loop-o-preserved
loop-o-preserved c = record {
  black = offsets_more _ c.loop-o.o _ (get_or c.loop-o.inks 0 []) _ c.four_at.ensures.black c.loop-o.invariant.black c.put_four.ensures.black;
  cyan = offsets_more _ c.loop-o.o _ (get_or c.loop-o.inks 1 []) _ c.four_at.ensures.cyan c.loop-o.invariant.cyan c.put_four.ensures.cyan;
  magenta = offsets_more _ c.loop-o.o _ (get_or c.loop-o.inks 2 []) _ c.four_at.ensures.magenta c.loop-o.invariant.magenta c.put_four.ensures.magenta;
  yellow = offsets_more _ c.loop-o.o _ (get_or c.loop-o.inks 3 []) _ c.four_at.ensures.yellow c.loop-o.invariant.yellow c.put_four.ensures.yellow;
}
