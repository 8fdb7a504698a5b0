use Rattle.std.proofs.Common.{◌∙◌, ◌+◌, ◌-◌, ◌≤◌, ℕ, arith, length, length-set, subst, sym}
use Rattle.weave_base.proofs.Parting.{on_err_anyway}
use Rattle.page_writer.specs.Heads.{HeadPage}
use Rattle.page_writer.specs.Outlets.{outlet_of}
use Rattle.page_writer.specs.Pieces.{SendsStrokes, bound_of}
use Rattle.page_writer.specs.declared.coded.Run.{Run}
use Rattle.page_writer.specs.declared.coded.Sent.{Sent}
use Rattle.page_writer.proofs.Pieces.{bound_above, bound_rises, each_at, each_step, part_join, sends_join, sent_fits}
use Rattle.page_writer.proofs.batches.put_batch.Goals as goal

pub returns-in_err-one-clause-part : goal.returns-in_err-one-clause-part
returns-in_err-one-clause-part g c =
    let run : Run = c.args.batch.now.run in
    let i : ℕ = c.pieces.i in
    let many : ℕ = length c.args.batch.now.coders.items in
    let above : run.first ≤ bound_of run i = bound_above run i c.requires.first in
    let rises : bound_of run i ≤ bound_of run (i + 1) = bound_rises run i (i + 1) (omega arith) in
    let within : bound_of run (i + 1) ≤ bound_of run many = bound_rises run (i + 1) many
    (omega (arith, c.pieces-test.true, c.len-i-end.ensures, c.pieces.invariant.many)) in
    on_err_anyway _ (part_join c.bound.result (c.bound-in-pieces.result - c.bound.result) (bound_of run many - run.first)
    (omega (arith, above, c.bound.ensures)) (omega (arith, above, rises, within, c.bound.ensures, c.bound-in-pieces.ensures))
    c.pieces.invariant.sent c.in_err-one.ensures.part)

pub and_then-sent-requires-clause-bytes : goal.and_then-sent-requires-clause-bytes
and_then-sent-requires-clause-bytes g c =
    let run : Run = c.args.batch.now.run in
    let i : ℕ = c.pieces.i in
    let rises : bound_of run i ≤ bound_of run (i + 1) = bound_rises run i (i + 1) (omega arith) in
    let above : run.first ≤ bound_of run i = bound_above run i c.requires.first in
    let below : bound_of run (i + 1) ≤ run.count = omega arith in
    let fit = sent_fits c.requires.page c.pieces.invariant.sent c.in_ok-one.ensures.ok
    (omega (arith, rises, above, below, c.bound.ensures, c.bound-in-pieces.ensures, c.requires.low)) in
    omega (arith, fit)

pub pieces-preserved : goal.pieces-preserved
pieces-preserved g c =
    let page : HeadPage = g.S.Strokes.page c.args.page.now in
    let run : Run = c.args.batch.now.run in
    let i : ℕ = c.pieces.i in
    let above : run.first ≤ bound_of run i = bound_above run i c.requires.first in
    let rises : bound_of run i ≤ bound_of run (i + 1) = bound_rises run i (i + 1) (omega arith) in
    let here = (each_at _ i c.index_mut.result.now c.pieces.invariant.pieces (omega arith) c.index_mut.ensures.value).0 in
    record {
      run = c.pieces.invariant.run;
      many = length-set _ _ _ ∙ c.pieces.invariant.many;
      pieces = each_step _ _ _ _ _ c.pieces.invariant.pieces
          (λ k w other both. (both.0, λ low. both.1 (omega arith))) (
            record { own_is = here.own_is; many = c.in_ok-one.ensures.many ∙ here.many; room = c.in_ok-one.ensures.room },
            λ low. absurd (omega (arith, low)),
          );
      sent = let P : Sent → Type 0 = SendsStrokes page c.args.last run.first (bound_of run (i + 1) - run.first)
          (outlet_of (g.K.Sink.held c.args.sink.now) c.args.waiting.now.items)
          (outlet_of (g.K.Sink.held c.put_piece.new.sink) c.put_piece.new.waiting.items) in
          subst P (sym c.and_then-sent.ensures) (sends_join (omega (arith, above, c.bound.ensures))
          (omega (arith, above, rises, c.bound.ensures, c.bound-in-pieces.ensures)) c.pieces.invariant.sent c.in_ok-one.ensures.ok);
      capacity = omega (arith, c.pieces.invariant.capacity, c.in_ok-one.ensures.capacity);
      later = omega (arith, c.pieces.invariant.later, c.in_ok-one.ensures.cause.later);
    }
