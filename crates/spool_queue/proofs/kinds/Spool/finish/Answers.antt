use Rattle.std.proofs.Common.{length, ap, sym, ◌∙◌}
use Rattle.spool_queue.proofs.Passes.{all_counted, are_sent}
use Rattle.spool_queue.proofs.kinds.Spool.finish.Goals as goal

pub drain-requires-clause-all : goal.drain-requires-clause-all
drain-requires-clause-all g c = ap (λ v. length v.ended) c.gather.ensures.view ∙ all_counted c.args.senders.items c.requires.order ∙ sym (ap (λ v. v.senders) c.gather.ensures.view)

pub returns : goal.returns
returns g c = are_sent c.drain.result.items c.drain.ensures c.gather.ensures.view
