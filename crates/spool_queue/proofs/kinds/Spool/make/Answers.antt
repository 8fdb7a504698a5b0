use Rattle.std.proofs.Common.{ap, refl, ◌∙◌, rules, add-one}
use Rattle.spool_queue.proofs.Moves.{begins, enrols}
use Rattle.spool_queue.proofs.Passes.{enrolled_more}
use Rattle.spool_queue.proofs.Steps.{one_enrolled}
use Rattle.spool_queue.proofs.kinds.Spool.make.Goals as goal

pub ruled-requires-clause-rule : goal.ruled-requires-clause-rule
ruled-requires-clause-rule c = begins

pub another-next-requires-clause-rule : goal.another-next-requires-clause-rule
another-next-requires-clause-rule c = enrols _ _ (ap (λ v. v.prints) c.loop-i.invariant.role)

pub loop-i-preserved : goal.loop-i-preserved
loop-i-preserved c =
    let role = c.loop-i.invariant.role in
    let new = c.another-next.ensures.rule in
    record {
      pass = (c.another-next.ensures.queue.0.0 ∙ c.loop-i.invariant.pass.0, c.another-next.ensures.queue.0.2 ∙ c.loop-i.invariant.pass.1);
      role = one_enrolled role new.0 (add-one c.loop-i.i);
      passes = enrolled_more c.loop-i.invariant.passes c.push_reserved.ensures.items (add-one c.loop-i.i) (search rules) (ap (λ v. v.sent) new.1) refl;
      room = c.push_reserved.ensures.capacity ∙ c.loop-i.invariant.room;
    }
