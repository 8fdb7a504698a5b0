use Rattle.std.proofs.Common.{◌≡◌, ◌≤◌, ◌-◌, []}
use Rattle.job_finisher.proofs.FinishedJobs.{TakesSoFar}
use Rattle.job_finisher.proofs.job.pass_job.Given as goal

abbrev pub invariant-reads : goal.invariant-reads
invariant-reads g l = record {
  so_far : TakesSoFar l.finisher l.most l.fed (g.S.Source.left l.fn.input) (g.S.Source.left l.input) (g.K.Sink.held l.fn.out)
      (g.K.Sink.held l.out);
  unread : l.unread ≡ [];
  later : g.K.Sink.faults l.fn.out ≤ g.K.Sink.faults l.out;
  input_later : g.S.Source.faults l.fn.input ≤ g.S.Source.faults l.input;
}

abbrev pub decreases-reads : goal.decreases-reads
decreases-reads g l = l.most - l.fed
