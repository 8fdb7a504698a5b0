use Rattle.std.proofs.Common.{rules}
use Rattle.wavefront_team.specs.Passes.{IsShareOf, desk}
use Rattle.wavefront_team.proofs.Shares.{ready_more}
use Rattle.wavefront_team.proofs.diffusing.shares_of.Goals as goal

pub loop-preserved : goal.loop-preserved
loop-preserved g c = record {
  shares = ready_more (λ share. IsShareOf (desk c.args.board.now) (g.L.Lends.desk share.lent) share.worker.pass)
      c.loop.shares.items c.push_reserved.new.self.items _ c.push_reserved.ensures.items c.loop.invariant.shares
      (record { same = c.requires.lent; worker = search rules });
  rest = search rules;
  first = search rules;
  made = search rules;
  few = search rules;
  most = search rules;
  room = search rules;
}
