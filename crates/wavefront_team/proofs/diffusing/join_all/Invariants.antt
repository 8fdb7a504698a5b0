use Rattle.std.proofs.Common.{length, vec_len}
use Rattle.wavefront_team.specs.Passes.{IsRest, IsWorkerOf, desk}
use Rattle.worker_team.specs.Shares.{AllReady}
use Rattle.wavefront_team.proofs.diffusing.join_all.Given as goal

abbrev pub invariant-loop-share : goal.invariant-loop-share
invariant-loop-share g l = record {
  shares : AllReady (λ share. IsWorkerOf (desk l.board) share.worker.pass) l.shares.items;
  rest : IsRest (desk l.board) (length l.shares.items) l.pass;
}

abbrev pub decreases-loop-share : goal.decreases-loop-share
decreases-loop-share g l = vec_len l.shares
