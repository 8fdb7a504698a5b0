use Rattle.std.proofs.Common.{◌≡◌, ◌∙◌, ◌-◌, ◌≤◌, ℕ, arith, ap, length, subst, sym, ◌*◌}
use Rattle.std.proofs.Math.Nat.{mul-le-mul}
use Rattle.std.specs.declared.vec.Vec.{Vec}
use Rattle.weave_base.proofs.Parting.{on_err_anyway}
use Rattle.page_writer.specs.Heads.{HeadPage}
use Rattle.page_writer.specs.Outlets.{outlet_of}
use Rattle.page_writer.specs.Pieces.{Each, IsFilled, IsRoomy, SendsStrokes, bound_of}
use Rattle.page_writer.specs.declared.coded.Run.{Run}
use Rattle.page_writer.specs.declared.coder.Coder.{Coder}
use Rattle.page_writer.specs.declared.batches.Batch.{Batch}
use Rattle.page_writer.specs.declared.coded.Sent.{Sent}
use Rattle.page_writer.proofs.Pieces.{bound_above, part_join, sends_join, sent_fits}
use Rattle.page_writer.proofs.batches.put_batches.Goals as goal

pub returns-in_err-one-clause-part : goal.returns-in_err-one-clause-part
returns-in_err-one-clause-part g c =
    let run : Run = c.batches.behind.run in
    let many : ℕ = length c.batches.behind.coders.items in
    let above : run.first ≤ bound_of run many = bound_above run many c.batches.invariant.first in
    on_err_anyway _ (part_join run.first (bound_of run many - run.first) (g.S.Strokes.page c.args.page.now).head.count
    (omega arith) (omega (arith, above)) c.batches.invariant.sent c.in_err-one.ensures.part)

pub and_then-sent-requires-clause-bytes : goal.and_then-sent-requires-clause-bytes
and_then-sent-requires-clause-bytes g c =
    let run : Run = c.batches.behind.run in
    let many : ℕ = length c.batches.behind.coders.items in
    let above : run.first ≤ bound_of run many = bound_above run many c.batches.invariant.first in
    let fit = sent_fits c.requires.page c.batches.invariant.sent c.in_ok-one.ensures.ok (omega (arith, above)) in
    omega (arith, fit)

pub batches-smaller : goal.batches-smaller
batches-smaller g c =
    let run : Run = c.batches.ahead.run in
    let many : ℕ = length c.batches.ahead.coders.items in
    let len_is : c.len.result ≡ many = omega (arith, c.len.ensures, c.in_ok-one.ensures.ahead_many) in
    let next_is : c.swap.new.x.run.first ≡ bound_of run many =
    ap (λ (batch : Batch g.row.S.Denot). batch.run.first) c.swap.ensures.x_after
    ∙ ap (λ (r : Run). r.first) c.behind-behind.ensures
    ∙ ap (λ r. bound_of r c.len.result) c.in_ok-one.ensures.ahead_run ∙ ap (bound_of run) len_is in
    let here_is : c.swap.new.y.run.first ≡ run.first =
    ap (λ (batch : Batch g.row.S.Denot). batch.run.first) c.swap.ensures.y_after
    ∙ ap (λ (r : Run). r.first) c.in_ok-one.ensures.ahead_run in
    let above : c.batches.behind.run.first ≤ bound_of c.batches.behind.run (length c.batches.behind.coders.items) =
    bound_above c.batches.behind.run _ c.batches.invariant.first in
    let each : 1 ≤ run.each = omega (arith, c.batches.invariant.each) in
    let some : 1 * 1 ≤ many * run.each = mul-le-mul c.batches.invariant.ahead_some each in
    omega (arith, next_is, here_is, above, some, c.batches-test.true)

pub batches-preserved : goal.batches-preserved
batches-preserved g c =
    let page : HeadPage = g.S.Strokes.page c.args.page.now in
    let run : Run = c.batches.ahead.run in
    let many : ℕ = length c.batches.ahead.coders.items in
    let len_is : c.len.result ≡ many = omega (arith, c.len.ensures, c.in_ok-one.ensures.ahead_many) in
    let next_run : (f : Run → ℕ) → f c.swap.new.x.run
    ≡ f (record { first = bound_of c.code_beside.new.ahead.run c.len.result; each = c.code_beside.new.ahead.run.each; count = c.code_beside.new.ahead.run.count }) =
    λ f. ap (λ (batch : Batch g.row.S.Denot). f batch.run) c.swap.ensures.x_after ∙ ap f c.behind-behind.ensures in
    let next_is : c.swap.new.x.run.first ≡ bound_of run many =
    next_run (λ r. r.first) ∙ ap (λ r. bound_of r c.len.result) c.in_ok-one.ensures.ahead_run ∙ ap (bound_of run) len_is in
    let here_is : c.swap.new.y.run ≡ run =
    ap (λ (batch : Batch g.row.S.Denot). batch.run) c.swap.ensures.y_after ∙ c.in_ok-one.ensures.ahead_run in
    let here_coders : c.swap.new.y.coders ≡ c.code_beside.new.ahead.coders =
    ap (λ (batch : Batch g.row.S.Denot). batch.coders) c.swap.ensures.y_after in
    let next_coders : c.swap.new.x.coders ≡ c.code_beside.new.behind.coders =
    ap (λ (batch : Batch g.row.S.Denot). batch.coders) c.swap.ensures.x_after in
    let next_many : length c.swap.new.x.coders.items ≡ length c.batches.behind.coders.items =
    ap (λ coders. length coders.items) next_coders ∙ c.in_ok-one.ensures.many in
    let here_many : length c.swap.new.y.coders.items ≡ many =
    ap (λ coders. length coders.items) here_coders ∙ c.in_ok-one.ensures.ahead_many in
    let above : c.batches.behind.run.first ≤ bound_of c.batches.behind.run (length c.batches.behind.coders.items) =
    bound_above c.batches.behind.run _ c.batches.invariant.first in
    record {
      each = c.batches.invariant.each;
      count = c.batches.invariant.count;
      ahead_each = next_run (λ r. r.each) ∙ ap (λ (r : Run). r.each) c.in_ok-one.ensures.ahead_run ∙ c.batches.invariant.ahead_each;
      ahead_count = next_run (λ r. r.count) ∙ ap (λ (r : Run). r.count) c.in_ok-one.ensures.ahead_run ∙ c.batches.invariant.ahead_count;
      ahead_low = omega (arith, next_is, c.batches.invariant.ahead_count);
      ahead_some = omega (arith, next_many, c.batches.invariant.some);
      ahead_few = omega (arith, next_many, c.batches.invariant.few);
      ahead_room = let P : Vec (Coder g.row.S.Denot) _ → Type 0 = λ coders. Each
          (λ k coder. IsRoomy page c.batches.behind.run.each (g.S.Strokes.page coder.page.now) coder.piece) coders.items in
          let Q : ℕ → Type 0 = λ n. Each (λ k coder. IsRoomy page n (g.S.Strokes.page coder.page.now) coder.piece) c.swap.new.x.coders.items in
          subst Q c.batches.invariant.each_is (subst P (sym next_coders) c.in_ok-one.ensures.room);
      each_is = ap (λ (r : Run). r.each) here_is ∙ c.batches.invariant.ahead_each;
      low = omega (arith, ap (λ (r : Run). r.count) here_is, c.batches.invariant.ahead_count);
      first = omega (
        arith,
        ap (λ (r : Run). r.count) here_is,
        ap (λ (r : Run). r.first) here_is,
        c.batches.invariant.ahead_count,
        c.batches.invariant.ahead_low,
      );
      some = omega (arith, here_many, c.batches.invariant.ahead_some);
      few = omega (arith, here_many, c.batches.invariant.ahead_few);
      filled = let P : Vec (Coder g.row.S.Denot) _ → Type 0 = λ coders. Each
          (λ k coder. IsFilled page run k (g.S.Strokes.page coder.page.now) coder.piece) coders.items in
          let Q : Run → Type 0 = λ r. Each (λ k coder. IsFilled page r k (g.S.Strokes.page coder.page.now) coder.piece) c.swap.new.y.coders.items in
          subst Q (sym here_is) (subst P (sym here_coders) c.in_ok-one.ensures.ahead_filled);
      next = ap (λ r. bound_of r (length c.swap.new.y.coders.items)) here_is ∙ ap (bound_of run) here_many ∙ sym next_is;
      sent = let P : Sent → Type 0 = SendsStrokes page 0 0 c.swap.new.y.run.first (outlet_of (g.K.Sink.held c.args.sink.now) c.args.waiting.now.items)
          (outlet_of (g.K.Sink.held c.code_beside.new.sink) c.code_beside.new.waiting.items) in
          subst P (sym c.and_then-sent.ensures) (sends_join (omega arith)
          (omega (arith, ap (λ (r : Run). r.first) here_is, c.batches.invariant.next, above)) c.batches.invariant.sent c.in_ok-one.ensures.ok);
      capacity = omega (arith, c.batches.invariant.capacity, c.in_ok-one.ensures.capacity);
      later = omega (arith, c.batches.invariant.later, c.in_ok-one.ensures.cause.later);
    }
