use Rattle.std.proofs.Common.{◌≡◌, ◌++◌, map, vec_capacity}
use Rattle.spool_core.specs.declared.senders.Work.{Work}
use Rattle.spool_core.proofs.senders.assign.Given as goal

abbrev pub invariant-loop-pass : goal.invariant-loop-pass
invariant-loop-pass l = record {
  passes : map (λ (w : Work). w.pass) l.works.items ++ l.pass-iterator.rest.items ≡ l.fn.passes.items;
  lists : map (λ (w : Work). w.streams) l.works.items ++ l.rest.rest.items ≡ l.fn.lists.items;
  room : vec_capacity l.works ≡ vec_capacity l.fn.works;
}
