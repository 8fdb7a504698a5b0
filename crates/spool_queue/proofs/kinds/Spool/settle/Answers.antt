use Rattle.std.proofs.Common.{length, ap, sym, ◌∙◌, arith, length-append}
use Rattle.spool_queue.specs.Passes.{sent_lists, taken_of}
use Rattle.spool_queue.proofs.Moves.{settles}
use Rattle.spool_queue.proofs.Passes.{all_counted, are_sent, counts_sent, taken_all}
use Rattle.spool_queue.proofs.kinds.Spool.settle.Goals as goal

pub learn_as-requires-clause-rule : goal.learn_as-requires-clause-rule
learn_as-requires-clause-rule c =
    let view_is = c.gather.ensures.view in
    settles _ _ (ap (λ v. v.prints) view_is) (ap (λ v. length v.ended) view_is ∙ all_counted c.args.senders.items c.requires.order ∙ sym (ap (λ v. v.senders) view_is))

pub returns-clause-rest : goal.returns-clause-rest
returns-clause-rest c = let r = c.learn_as.ensures.rule in (r.0, are_sent r.0 r.1.each c.gather.ensures.view)

pub returns-clause-few : goal.returns-clause-few
returns-clause-few c =
    let r = c.learn_as.ensures.rule in
    let count = counts_sent r.0 r.1.count c.gather.ensures.view in
    let both = length-append (taken_of c.args.printer) r.0 in
    omega arith

pub returns-clause-all : goal.returns-clause-all
returns-clause-all c =
    let r = c.learn_as.ensures.rule in
    taken_all (sent_lists c.args.senders.items) (taken_of c.args.printer) r.0 (are_sent r.0 r.1.each c.gather.ensures.view) (counts_sent r.0 r.1.count c.gather.ensures.view)
