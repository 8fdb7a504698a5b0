use Rattle.std.proofs.Common.{◌<◌, length, ap, sym, refl, ◌∙◌, arith}
use Rattle.crossbeam_queue.specs.Passes.{view}
use Rattle.spool_queue.proofs.Moves.{settles, drains}
use Rattle.spool_queue.proofs.Passes.{drained, has_room}
use Rattle.spool_queue.proofs.Steps.{none_drained, one_drained}
use Rattle.spool_queue.proofs.ends.drain.Goals as goal

pub len_as-count-requires-clause-rule : goal.len_as-count-requires-clause-rule
len_as-count-requires-clause-rule g c = settles _ _ (ap (λ v. v.prints) c.requires.role) c.requires.all

pub pop_as-requires-clause-rule : goal.pop_as-requires-clause-rule
pop_as-requires-clause-rule g c =
    let role = c.loop.invariant.role in
    let may = ap (λ v. v.prints) role in
    let all = ap (λ v. length v.ended) role ∙ c.requires.all ∙ sym (ap (λ v. v.senders) role) in
    (drains _ _ may all, settles _ _ may all)

pub push_reserved-requires : goal.push_reserved-requires
push_reserved-requires g c =
    let role = c.loop.invariant.role in
    let room = c.loop.invariant.room in
    let cap = c.requires.room.1 in
    let count = c.len_as-count.ensures.rule in
    let left : length c.loop.rest.items < c.len_as-count.result = has_room {items = count.1.0} (view c.loop.pass) c.in-Some-pop_as.job c.loop.rest.items count.1.2 count.1.1 refl (ap (λ v. v.taken) role) (ap (λ v. v.ended) role) c.in-Some-pop_as.ensures.rule.1 in
    let within = count.0 in
    omega arith

pub loop-init : goal.loop-init
loop-init g c = record {
  pass = (c.len_as-count.ensures.queue.0.0 ∙ c.requires.pass.0, c.len_as-count.ensures.queue.0.2 ∙ c.requires.pass.1);
  role = none_drained c.len_as-count.ensures.queue.1 c.requires.role c.requires.room.0;
  room = refl;
}

pub loop-preserved : goal.loop-preserved
loop-preserved g c = record {
  pass = (c.pop_as.ensures.queue.0 ∙ c.loop.invariant.pass.0, c.pop_as.ensures.queue.2 ∙ c.loop.invariant.pass.1);
  role = one_drained (view c.args.pass.now) c.in-Some-pop_as.job c.loop.rest.items c.loop.invariant.role c.in-Some-pop_as.ensures.rule.0 c.push_reserved.ensures.items;
  room = c.push_reserved.ensures.capacity ∙ c.loop.invariant.room;
}

pub returns-in-None-pop_as : goal.returns-in-None-pop_as
returns-in-None-pop_as g c =
    let role = c.loop.invariant.role in
    let held = c.in-None-pop_as.ensures.rule.1 in
    drained (view c.args.pass.now).taken c.loop.rest.items held.0 (ap (λ v. v.taken) role) (ap (λ v. v.ended) role) held.1 held.2
