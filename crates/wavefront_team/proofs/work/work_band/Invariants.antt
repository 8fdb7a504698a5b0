use Rattle.wavefront_team.specs.Passes.{HasAll, HasPosted, desk}
use Rattle.wavefront_team.proofs.work.work_band.Given as goal

abbrev pub invariant-loop-c : goal.invariant-loop-c
invariant-loop-c g l = record {
  pass : HasAll (desk l.board) l.pass;
  posted : HasPosted (desk l.board) l.j l.c l.pass;
}
