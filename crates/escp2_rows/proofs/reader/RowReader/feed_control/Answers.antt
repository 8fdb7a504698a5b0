use Rattle.std.proofs.Common.{arith}
use Rattle.escp2_rows.proofs.Steps.{at_place, control_moves, stands_moved}
use Rattle.escp2_rows.proofs.reader.RowReader.feed_control.Goals as goal

pub returns : goal.returns
returns c = record {
  left = omega arith;
  stands = λ form sofar given so_far. stands_moved
      (control_moves _ _ _ _ _ c.requires.some c.place_after-self.ensures.begun c.place_after-self.ensures.place)
      (at_place c.requires.place so_far);
}
