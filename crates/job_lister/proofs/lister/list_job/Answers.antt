use Rattle.std.proofs.Common.{arith, ap, sym, ◌∙◌, [], Err}
use Rattle.std.proofs.KnownBytes.{Consumes-kept, Consumes-nil}
use Rattle.std.proofs.lemmas.Result.{err_from_is_err_and}
use Rattle.escp2_reader.proofs.Jobs.{some_bytes, stop_taken}
use Rattle.job_lister.proofs.Listing.{lists_all, lists_more, lists_none, lists_nothing, lists_part, lists_to_stop}
use Rattle.job_lister.proofs.lister.list_job.Goals as goal

pub returns-in_err-feed : goal.returns-in_err-feed
returns-in_err-feed g c =
    let error = err_from_is_err_and c.from_residual.result c.from_residual.ensures.1 in
    rw (error.1, error.2) (lists_nothing c.args.most)

pub commands-init : goal.commands-init
commands-init g c = record {
  so_far =
      lists_none c.in_ok-feed.feed c.new-gathered.result _ _ c.in_ok-feed.ensures.at c.in_ok-feed.ensures.unread c.new-gathered.ensures.is;
  between = c.in_ok-feed.ensures.between;
  most = c.in_ok-feed.ensures.most;
  later = omega arith;
  out_later = omega arith;
}

pub commands-preserved : goal.commands-preserved
commands-preserved g c =
    let takes = rw c.in-Ok-Some.field-0-is at c.in-Ok-Some.ensures.command in
    record {
      so_far =
          lists_more c.commands.feed c.next.new.self c.commands.gathered c.push_command.new.gathered _ c.in-Ok-Some.placed
          c.commands.invariant.so_far takes
          (rw c.rows.ensures at c.in_ok-push_command-in-Ok-Some.ensures.ok);
      between = takes.between;
      most = takes.most ∙ c.commands.invariant.most;
      later = omega (arith, c.commands.invariant.later, c.next.ensures.later);
      out_later = omega (arith, c.commands.invariant.out_later, c.push_command.ensures.cause.later);
    }

pub commands-smaller : goal.commands-smaller
commands-smaller g c =
    let takes = rw c.in-Ok-Some.field-0-is at c.in-Ok-Some.ensures.command in
    omega (arith, takes.behind, takes.within, takes.most, some_bytes takes.bytes _ _ takes.whole)

pub returns-in_err-push_command-in-Ok-Some : goal.returns-in_err-push_command-in-Ok-Some
returns-in_err-push_command-in-Ok-Some g c =
    let error = err_from_is_err_and c.from_residual-in_err-push_command-in-Ok-Some.result
    c.from_residual-in_err-push_command-in-Ok-Some.ensures.1 in
    let takes = rw c.in-Ok-Some.field-0-is at c.in-Ok-Some.ensures.command in
    rw (error.1, error.2, sym c.commands.invariant.most)
    (lists_part c.commands.feed c.next.new.self c.commands.gathered takes.bytes c.commands.invariant.so_far
    takes.taken
    c.in_err-push_command-in-Ok-Some.ensures.part c.commands.invariant.out_later c.in_err-push_command-in-Ok-Some.ensures.cause.failed)

pub returns-in_err-put-in-Ok-None : goal.returns-in_err-put-in-Ok-None
returns-in_err-put-in-Ok-None g c =
    let error = err_from_is_err_and c.from_residual-in_err-put-in-Ok-None.result c.from_residual-in_err-put-in-Ok-None.ensures.1 in
    let ended = rw c.in-Ok-None.field-0-is at c.in-Ok-None.ensures.end in
    rw (error.1, error.2, sym c.commands.invariant.most)
    (lists_part c.commands.feed c.next.new.self c.commands.gathered [] c.commands.invariant.so_far
    (Consumes-kept _ _ _ [] (Consumes-nil _) ended.0) c.in_err-put-in-Ok-None.ensures.part c.commands.invariant.out_later
    c.in_err-put-in-Ok-None.ensures.cause.failed)

pub returns-in-Ok-None : goal.returns-in-Ok-None
returns-in-Ok-None g c =
    let ended = rw c.in-Ok-None.field-0-is at c.in-Ok-None.ensures.end in
    rw (sym c.commands.invariant.most)
    (lists_all c.commands.feed c.next.new.self c.commands.gathered c.commands.invariant.so_far ended
    c.in_ok-put-in-Ok-None.ensures.ok)

pub returns-in_err-put-in-Err : goal.returns-in_err-put-in-Err
returns-in_err-put-in-Err g c =
    let error = err_from_is_err_and c.from_residual-in_err-put-in-Err.result c.from_residual-in_err-put-in-Err.ensures.1 in
    let taken = stop_taken c.commands.feed _ _ _ _ c.in-Err.stop c.in-Err.ensures.stop in
    rw (error.1, error.2, sym c.commands.invariant.most)
    (lists_part c.commands.feed c.next.new.self c.commands.gathered taken.0 c.commands.invariant.so_far
    taken.1 c.in_err-put-in-Err.ensures.part c.commands.invariant.out_later c.in_err-put-in-Err.ensures.cause.failed)

pub returns-in-Err : goal.returns-in-Err
returns-in-Err g c =
    lists_to_stop c.args.most c.commands.feed c.next.new.self c.commands.gathered _ _ _ c.in-Err.stop c.from.result
    c.commands.invariant.so_far
    c.in-Err.ensures.stop c.commands.invariant.later c.in_ok-put-in-Err.ensures.ok (λ is. c.in-Err.ensures.all_used (ap Err is))
    c.commands.invariant.most c.from.ensures
