use Rattle.std.proofs.Common.{Ok, Err, ap, arith, length, refl, true, ◌+◌, ◌≡◌, ◌∙◌}
use Rattle.std.proofs.lemmas.Bool.Decides.{nat_tests}
use Rattle.std.proofs.lemmas.List.{drop_all}
use Rattle.std.proofs.lemmas.Result.{err_from_is_err_and}
use Rattle.buffered_bytes.specs.Outside.{outside_of}
use Rattle.escp2_reader.proofs.Jobs.{rose_within}
use Rattle.job_finisher.proofs.FinishedJobs.{grows_none, piece_long, piece_taken, takes_end, takes_kept, takes_more, takes_none, takes_stop}
use Rattle.job_finisher.specs.declared.job.FinishStop.TheVariants as stop
use Rattle.job_finisher.proofs.job.pass_job.Goals as goal

pub reads-init : goal.reads-init
reads-init g c = record {
  so_far = takes_none c.args.finisher.now c.args.most _ _ c.requires.anew;
  unread = c.requires.empty;
  later = omega arith;
  input_later = omega arith;
}

pub returns-in-Ok-eq0-clause-passes : goal.returns-in-Ok-eq0-clause-passes
returns-in-Ok-eq0-clause-passes g c =
    let empty = c.reads.invariant.unread in
    let zero : c.in-Ok-eq0.field-0 ≡ 0 = grind (arith, nat_tests) in
    let none = grows_none c.reads.unread c.more.new.self c.in-Ok-eq0.field-0 c.in-Ok-eq0.ensures.grown zero empty in
    takes_end c.reads.finisher c.args.most c.reads.fed (outside_of g.S.Source.left g.S.Source.faults c.args.input.now c.more.new.source)
    (outside_of g.K.Sink.held g.K.Sink.faults c.args.out.now c.reads.out) (Ok tt)
    (takes_kept c.reads.finisher c.args.most c.reads.fed _ _ _ _ _ c.reads.unread c.more.new.self c.reads.invariant.so_far empty none
    c.more.ensures.text)
    (λ may. (c.in-Ok-eq0.ensures.end zero, may))

pub returns-in-Err-clause-passes : goal.returns-in-Err-clause-passes
returns-in-Err-clause-passes g c =
    let empty = c.reads.invariant.unread in
    takes_end c.reads.finisher c.args.most c.reads.fed (outside_of g.S.Source.left g.S.Source.faults c.args.input.now c.more.new.source)
    (outside_of g.K.Sink.held g.K.Sink.faults c.args.out.now c.reads.out) (Err stop.Read)
    (takes_kept c.reads.finisher c.args.most c.reads.fed _ _ _ _ _ c.reads.unread c.more.new.self c.reads.invariant.so_far empty
    (c.in-Err.ensures.same ∙ empty) c.more.ensures.text)
    (λ may. (
      rose_within (g.S.Source.faults c.args.input.now) (g.S.Source.faults c.reads.input) (g.S.Source.faults c.more.new.source)
          (g.S.Source.faults c.more.new.source) c.reads.invariant.input_later c.in-Err.ensures.cause.failed (omega arith),
      may,
    ))

pub returns-in_err-pass_piece-clause-passes : goal.returns-in_err-pass_piece-clause-passes
returns-in_err-pass_piece-clause-passes g c =
    let so_far = c.reads.invariant.so_far in
    let error = err_from_is_err_and c.from_residual.result c.from_residual.ensures.1 in
    let same : error.0 ≡ c.in_err-pass_piece.field-0.0 = error.2 in
    let is : c.from_residual.result ≡ Err c.in_err-pass_piece.field-0.0 = error.1 ∙ ap Err same in
    rw is
    (takes_stop c.reads.finisher c.pass_piece.new.finisher c.args.most c.reads.fed (g.S.Source.left c.reads.input)
    (outside_of g.S.Source.left g.S.Source.faults c.args.input.now c.more.new.source)
    (outside_of g.K.Sink.held g.K.Sink.faults c.args.out.now c.pass_piece.new.out)
    (g.K.Sink.held c.reads.out) (g.K.Sink.faults c.reads.out) c.bytes.result.now c.in_err-pass_piece.field-0.0 so_far
    (piece_taken _ _ c.reads.unread c.more.new.self c.bytes.result.now c.bytes.ensures.bytes c.reads.invariant.unread c.more.ensures.text)
    c.reads.invariant.later (c.in_err-pass_piece.ensures.end so_far.bytes so_far.passed so_far.fed_is))

pub reads-smaller : goal.reads-smaller
reads-smaller g c =
    let some : c.in-Ok.count ≡ 0 → ⊥ = λ e. grind (arith, nat_tests) in
    omega (arith, piece_long c.reads.unread c.more.new.self c.bytes.result.now c.in-Ok.count c.bytes.ensures.bytes c.in-Ok.ensures.grown c.reads.invariant.unread, c.in_ok-pass_piece.ensures.within (refl {a = true}), some)

pub reads-preserved : goal.reads-preserved
reads-preserved g c =
    let so_far = c.reads.invariant.so_far in
    let count : length c.bytes.result.now ≡ c.in-Ok.count = piece_long c.reads.unread c.more.new.self c.bytes.result.now c.in-Ok.count c.bytes.ensures.bytes c.in-Ok.ensures.grown c.reads.invariant.unread in
    let ends = c.in_ok-pass_piece.ensures.end so_far.bytes so_far.passed so_far.fed_is in
    record {
      so_far = takes_more c.reads.finisher c.pass_piece.new.finisher c.args.most c.reads.fed (c.reads.fed + c.in-Ok.count) _
          (g.S.Source.left c.reads.input) _ (outside_of g.K.Sink.held g.K.Sink.faults c.reads.out c.pass_piece.new.out) _ c.bytes.result.now so_far
          (piece_taken _ _ c.reads.unread c.more.new.self c.bytes.result.now c.bytes.ensures.bytes c.reads.invariant.unread c.more.ensures.text)
          (c.in_ok-pass_piece.ensures.within (refl {a = true})) (omega (arith, count)) ends.0 ends.1;
      unread = c.use_up.ensures ∙ drop_all c.in-Ok.count c.more.new.self (omega (arith, count, ap length c.bytes.ensures.bytes));
      later = omega (arith, c.reads.invariant.later, c.pass_piece.ensures.later);
      input_later = omega (arith, c.reads.invariant.input_later, c.more.ensures.cause.later);
    }
