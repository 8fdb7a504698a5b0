use Rattle.weave_base.proofs.Parting.{on_err_behind}
use Rattle.job_finisher.proofs.holding.put_two.Goals as goal

pub returns-clause-part : goal.returns-clause-part
returns-clause-part g c =
    on_err_behind c.put_all-2.result _ _ _ c.args.first.now c.args.second.now c.in_ok-put_all.ensures.ok c.put_all-2.ensures.part
