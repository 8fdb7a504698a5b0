use Rattle.std.proofs.Common.{ap, sym, ◌∙◌, subst}
use Rattle.crossbeam_queue.specs.Passes.{view, IsPassOf}
use Rattle.spool_queue.specs.Rule.{sender_view}
use Rattle.spool_queue.proofs.Moves.{ends}
use Rattle.spool_queue.proofs.Passes.{Gathering, gather_start, gather_next, gather_here, gather_step}
use Rattle.spool_queue.proofs.ends.gather.Goals as goal

pub loop-sender-init : goal.loop-sender-init
loop-sender-init c = record {
  pass = c.requires.pass;
  gathers = subst (Gathering (λ p. IsPassOf c.args.queue.now p.pass) (view c.args.pass.now) c.args.senders.items (view c.args.pass.now)) (sym c.into_iter-sender-iterator.ensures.into_iter_gives.0)
      (gather_start c.requires.role c.requires.senders c.requires.order);
}

pub absorb-requires-clause-queue : goal.absorb-requires-clause-queue
absorb-requires-clause-queue c =
    let g = rw c.in-Some.ensures.steps.0 at c.loop-sender.invariant.gathers in
    (c.loop-sender.invariant.pass, gather_here g)

pub absorb-requires-clause-rule : goal.absorb-requires-clause-rule
absorb-requires-clause-rule c =
    let g = rw c.in-Some.ensures.steps.0 at c.loop-sender.invariant.gathers in
    ends _ _ _ _ (ap (λ v. v.prints) c.loop-sender.invariant.gathers.role) (c.in-Some.sender.role ∙ ap (λ n. sender_view n (view c.in-Some.sender.pass).sent) (gather_next g))

pub loop-sender-preserved : goal.loop-sender-preserved
loop-sender-preserved c =
    let g = rw c.in-Some.ensures.steps.0 at c.loop-sender.invariant.gathers in
    record {
      pass = (c.absorb.ensures.queue.0 ∙ c.loop-sender.invariant.pass.0, c.absorb.ensures.queue.2 ∙ c.loop-sender.invariant.pass.1);
      gathers = gather_step g c.absorb.ensures.rule;
    }
