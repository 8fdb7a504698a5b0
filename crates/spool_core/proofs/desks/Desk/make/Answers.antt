use Rattle.std.proofs.Common.{◌≡◌, ◌≤◌, arith, sym, ap, subst, ◌∙◌, List, map, All, length, []}
use Rattle.std.proofs.lemmas.List.{length-map}
use Rattle.spool_queue.specs.Jobs.{Stream, count_sent}
use Rattle.spool_queue.specs.Passes.{IsSenderOf, sender_of, sent_of}
use Rattle.spool_queue.specs.declared.kinds.SendPass.{SendPass}
use Rattle.spool_core.specs.Senders.{lists_in}
use Rattle.spool_core.specs.declared.senders.Work.{Work}
use Rattle.spool_core.proofs.Works.{All-of_map, can_send, map_map}
use Rattle.spool_core.proofs.desks.Desk.make.Goals as goal

pub count_streams-count-requires-clause-jobs : goal.count_streams-count-requires-clause-jobs
count_streams-count-requires-clause-jobs c =
    rw c.deref.ensures.value (All-of_map (λ (l : List Stream). length l ≤ 64) (λ list. list.items) c.args.lists.items c.requires.most_jobs)

pub returns : goal.returns
returns c =
    let works = c.assign.result.items in
    let passes = c.in_ok-spool.passes.items in
    let sends : lists_in works ≡ map (λ list. list.items) c.args.lists.items =
    sym (map_map (λ (w : Work). w.streams) (λ list. list.items) works) ∙ ap (map (λ list. list.items)) c.assign.ensures.lists in
    let are = c.in_ok-spool.ensures.passes in
    let back : map (λ (w : Work). w.pass) works ≡ passes = c.assign.ensures.passes in
    let same : length works ≡ length passes = sym (length-map works (λ (w : Work). w.pass)) ∙ ap length back in
    let count : length passes ≡ c.len-senders.result = c.in_ok-spool.ensures.senders.0 in
    let counted : c.count_streams-count.result ≡ count_sent (map (λ list. list.items) c.args.lists.items) =
    c.count_streams-count.ensures.count ∙ ap (λ ls. count_sent (map (λ list. list.items) ls)) c.deref.ensures.value in
    let listed = length-map c.args.lists.items (λ list. list.items) in
    let now : length c.deref.result.now ≡ length c.args.lists.items = ap length c.deref.ensures.value in
    let most = c.requires.most_senders in
    record {
      works = can_send c.in_ok-spool.spool works (subst (All (IsSenderOf c.in_ok-spool.spool)) (sym back) are.senders)
          (subst (All (λ (p : SendPass). sent_of p ≡ [])) (sym back) c.in_ok-spool.ensures.sent)
          (subst (All (λ (l : List Stream). length l ≤ 64)) (sym sends) c.requires.most_jobs);
      order = sym (map_map (λ (w : Work). w.pass) sender_of works) ∙ ap (map sender_of) back ∙ are.order;
      sends = sends;
      printer = are.printer;
      none_taken = c.in_ok-spool.ensures.taken;
      count_is = counted;
      few = omega (arith, c.count_streams-count.ensures.most);
      queue_room = omega (arith, c.in_ok-spool.ensures.room);
      none_ended = c.in_ok-ended.ensures.items;
      ended_room = omega (arith, c.in_ok-ended.ensures.capacity, c.len-senders.ensures, c.len-2.ensures);
      none_done = c.in_ok-done.ensures.items;
      done_room = omega (arith, c.in_ok-done.ensures.capacity);
    }
