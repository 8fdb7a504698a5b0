use Rattle.std.proofs.Common.{◌≡◌, ◌≤◌, ◌-◌}
use Rattle.escp2_reader.specs.Feeding.{IsBetween, at_of, most_of, text_of}
use Rattle.job_player.proofs.Playing.{PlaysSoFar}
use Rattle.job_player.proofs.player.play_job.Given as goal

abbrev pub invariant-commands : goal.invariant-commands
invariant-commands g l = record {
  so_far : PlaysSoFar l.profile l.emulator l.feed (g.S.Source.left l.fn.input)
      (text_of l.feed (g.S.Source.left l.input)) (g.K.Sink.held l.fn.out) (g.K.Sink.held l.out) l.sheets;
  between : IsBetween l.feed;
  most : most_of l.feed ≡ l.most;
  later : g.S.Source.faults l.fn.input ≤ g.S.Source.faults l.input;
  out_later : g.K.Sink.faults l.fn.out ≤ g.K.Sink.faults l.out;
}

abbrev pub decreases-commands : goal.decreases-commands
decreases-commands g l = most_of l.feed - at_of l.feed
