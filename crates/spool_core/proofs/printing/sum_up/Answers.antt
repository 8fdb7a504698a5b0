use Rattle.std.proofs.Common.{◌≡◌, ◌≢◌, All, count_by, rules, arith}
use Rattle.std.proofs.lemmas.Grind.{common_steps}
use Rattle.spool_core.specs.Outcome.{is_refused}
use Rattle.spool_core.specs.declared.report.Ran.{Ran}
use Rattle.spool_core.proofs.Jobs.{all_zero}
use Rattle.spool_core.proofs.printing.sum_up.Goals as goal

pub returns-then-count-eq0 : goal.returns-then-count-eq0
returns-then-count-eq0 c =
    let refused : count_by is_refused c.args.done.now ≡ 0 = search rules in
    let full : All (λ (ran : Ran). ran.status ≢ 7) c.args.done.now = first_of (search rules, grind (arith, common_steps)) in
    all_zero c.args.done.now c.requires.plain refused full
