use Rattle.wavefront_team.specs.Passes.{HasAll, HasPosted, desk}
use Rattle.wavefront_team.proofs.work.work_rest.Given as goal

abbrev pub invariant-loop-j : goal.invariant-loop-j
invariant-loop-j g l = record {
  pass : HasAll (desk l.board) l.pass;
  posted : HasPosted (desk l.board) l.j 0 l.pass;
}
