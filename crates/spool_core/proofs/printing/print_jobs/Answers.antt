use Rattle.std.proofs.Common.{◌≡◌, ◌≢◌, ◌+◌, ◌∙◌, ◌++◌, [], ◌∷◌, All, arith, sym, ap, subst, length}
use Rattle.std.proofs.lemmas.List.{length_push}
use Rattle.std.proofs.lemmas.List.Elements.{All-push}
use Rattle.spool_queue.specs.Passes.{taken_of}
use Rattle.spool_core.specs.declared.report.Ran.{Ran}
use Rattle.spool_core.proofs.Jobs.{more_done, not_write}
use Rattle.spool_core.proofs.printing.print_jobs.Goals as goal

pub returns-in-Write-clause-prints : goal.returns-in-Write-clause-prints
returns-in-Write-clause-prints g c =
    more_done (taken_of c.loop.printer) (taken_of c.take-sender.new.pass) c.take-sender.result c.loop.done.items c.push_reserved.new.self.items
    c.print_bytes-printed.result.pages c.status.result c.print_bytes-printed.result.answer
    c.take-sender.ensures.taken c.push_reserved.ensures.items c.loop.invariant.prints c.print_bytes-printed.ensures.prints c.status.ensures

pub loop-preserved : goal.loop-preserved
loop-preserved g c =
    let taken = c.take-sender.ensures.taken in
    let items = c.push_reserved.ensures.items in
    let P : Ran → Type 0 = λ r. r.status ≢ 5 in
    let ran : Ran = record {
      sender = c.take-sender.result.sender;
      number = c.take-sender.result.number;
      pages = c.print_bytes-printed.result.pages;
      status = c.status.result;
    } in
    let one : length (taken_of c.take-sender.new.pass) ≡ length (taken_of c.loop.printer ++ c.take-sender.result ∷ []) = ap length taken in
    let two : length c.push_reserved.new.self.items ≡ length (c.loop.done.items ++ ran ∷ []) = ap length items in
    record {
      pass = c.take-sender.ensures.pass;
      senders = c.take-sender.ensures.senders ∙ c.loop.invariant.senders;
      prints = more_done (taken_of c.loop.printer) (taken_of c.take-sender.new.pass) c.take-sender.result c.loop.done.items c.push_reserved.new.self.items
          c.print_bytes-printed.result.pages c.status.result c.print_bytes-printed.result.answer
          taken items c.loop.invariant.prints c.print_bytes-printed.ensures.prints c.status.ensures;
      count_is = one ∙ length_push (taken_of c.loop.printer) c.take-sender.result ∙ ap (λ n. n + 1) c.loop.invariant.count_is;
      done_count = two ∙ length_push c.loop.done.items ran ∙ ap (λ n. n + 1) c.loop.invariant.done_count;
      room = c.push_reserved.ensures.capacity ∙ c.loop.invariant.room;
      fine = subst (All P) (sym items) (All-push P c.loop.done.items ran c.loop.invariant.fine
          (λ five. not_write c.print_bytes-printed.result.answer c.in_default.not-Write (sym c.status.ensures ∙ five)));
      later = omega (arith, c.loop.invariant.later, c.print_bytes-printed.ensures.later);
    }
