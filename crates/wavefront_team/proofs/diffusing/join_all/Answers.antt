use Rattle.std.proofs.Common.{[], ◌∷◌, ap, arith, length, length-append, rules}
use Rattle.wavefront_team.specs.Passes.{IsWorkerOf, desk}
use Rattle.wavefront_team.proofs.Shares.{last_ready, ready_fewer}
use Rattle.wavefront_team.proofs.diffusing.join_all.Goals as goal

pub loop-share-preserved : goal.loop-share-preserved
loop-share-preserved g c =
    let last = last_ready (λ share. IsWorkerOf (desk c.args.board.now) share.worker.pass) c.pop.new.self.items
    c.loop-share.shares.items c.in-Some.share c.in-Some.ensures.items c.loop-share.invariant.shares in
    record {
      shares = ready_fewer (λ share. IsWorkerOf (desk c.args.board.now) share.worker.pass) c.pop.new.self.items
          c.loop-share.shares.items c.in-Some.share c.in-Some.ensures.items c.loop-share.invariant.shares;
      rest = (
        c.join.ensures.pass,
        search rules,
        omega (
          arith,
          c.join.ensures.parts,
          last.2,
          c.loop-share.invariant.rest.2,
          ap length c.in-Some.ensures.items,
          length-append c.pop.new.self.items (c.in-Some.share ∷ []),
        ),
      );
    }
