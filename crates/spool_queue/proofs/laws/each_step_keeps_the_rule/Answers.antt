use Rattle.spool_queue.proofs.Moves as move
use Rattle.spool_queue.proofs.laws.each_step_keeps_the_rule.Goals as goal

pub returns : goal.returns
returns c = record {
  first = move.begins;
  enrols = move.enrols;
  sends = move.sends;
  takes = move.takes;
  ends = move.ends;
}
