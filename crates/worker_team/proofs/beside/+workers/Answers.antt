use Rattle.std.proofs.Common.{List, arith, subst, suc}
use Rattle.worker_team.specs.Shares.{AllReady}
use Rattle.worker_team.proofs.beside.+workers.Goals as goal

pub run_beside-run_first-requires-clause-rest : goal.run_beside-run_first-requires-clause-rest
run_beside-run_first-requires-clause-rest g t c κs within = λ k d h.
    let all = subst (λ (shares : List g.row.W.Denot). AllReady g.W.Share.ready shares) c.in-Some.ensures.cases.0 c.requires.shares in
    all (suc k) d (omega (arith, h))
