use Rattle.std.proofs.Common.{◌≡◌, ℕ, ◌+◌, ◌∙◌, Bor, List, [], Ok, Err, ap, arith, length, refl, sym, true}
use Rattle.std.proofs.lemmas.Bool.Decides.{nat_tests}
use Rattle.std.proofs.lemmas.List.{drop_all}
use Rattle.std.proofs.lemmas.Result.{err_from_is_err_and}
use Rattle.std.specs.Option.{option_map}
use Rattle.buffered_bytes.specs.Outside.{outside_of}
use Rattle.escp2_reader.proofs.Jobs.{rose_within}
use Rattle.finish_core.proofs.Going.{halts_as, later_on}
use Rattle.finish_core.proofs.Jobs.{passes_end, passes_kept, passes_more, passes_stop}
use Rattle.finish_core.specs.declared.halts.Halt.TheVariants as halt
use Rattle.finish_core.specs.Sides.{Moment, moment_of}
use Rattle.job_finisher.proofs.FinishedJobs.{grows_none, piece_long, piece_taken}
use Rattle.finish_core.proofs.passing.pass_job.Goals as goal

pub returns-in-Ok-eq0-clause-passes : goal.returns-in-Ok-eq0-clause-passes
returns-in-Ok-eq0-clause-passes g c =
    let kept = c.reads.invariant in
    let zero : c.in-Ok-eq0.field-0 ≡ 0 = grind (arith, nat_tests) in
    let none = grows_none c.reads.unread c.more.new.self c.in-Ok-eq0.field-0 c.in-Ok-eq0.ensures.grown zero kept.unread in
    let a : Moment = moment_of g.K.Sink.held g.K.Sink.faults g.E.Sink.held g.E.Sink.faults g.L.Shelf.faults c.args.out.now c.args.err.now c.args.shelf.now in
    let b : Moment = moment_of g.K.Sink.held g.K.Sink.faults g.E.Sink.held g.E.Sink.faults g.L.Shelf.faults c.reads.out c.reads.err c.reads.shelf in
    passes_end c.args.how.telling (option_map (λ (name : Bor (List ℕ)). name.now) c.args.how.stop) (g.L.Shelf.files c.args.shelf.now) c.reads.parts c.reads.fed
    (outside_of g.S.Source.left g.S.Source.faults c.args.input.now c.more.new.source) a b (Ok tt)
    (passes_kept c.args.how.telling c.reads.parts c.reads.fed (g.S.Source.left c.args.input.now) (g.S.Source.left c.reads.input) (g.S.Source.left c.more.new.source)
    a b kept.so_far (piece_taken _ _ c.reads.unread c.more.new.self [] (sym none) kept.unread c.more.ensures.text))
    (λ passes may. (passes, c.in-Ok-eq0.ensures.end zero, may))

pub returns-in-Err-clause-passes : goal.returns-in-Err-clause-passes
returns-in-Err-clause-passes g c =
    let kept = c.reads.invariant in
    let none = c.in-Err.ensures.same ∙ kept.unread in
    let a : Moment = moment_of g.K.Sink.held g.K.Sink.faults g.E.Sink.held g.E.Sink.faults g.L.Shelf.faults c.args.out.now c.args.err.now c.args.shelf.now in
    let b : Moment = moment_of g.K.Sink.held g.K.Sink.faults g.E.Sink.held g.E.Sink.faults g.L.Shelf.faults c.reads.out c.reads.err c.reads.shelf in
    passes_end c.args.how.telling (option_map (λ (name : Bor (List ℕ)). name.now) c.args.how.stop) (g.L.Shelf.files c.args.shelf.now) c.reads.parts c.reads.fed
    (outside_of g.S.Source.left g.S.Source.faults c.args.input.now c.more.new.source) a b (Err halt.Read)
    (passes_kept c.args.how.telling c.reads.parts c.reads.fed (g.S.Source.left c.args.input.now) (g.S.Source.left c.reads.input) (g.S.Source.left c.more.new.source)
    a b kept.so_far (piece_taken _ _ c.reads.unread c.more.new.self [] (sym none) kept.unread c.more.ensures.text))
    (λ passes may. (
      passes,
      rose_within (g.S.Source.faults c.args.input.now) (g.S.Source.faults c.reads.input) (g.S.Source.faults c.more.new.source)
          (g.S.Source.faults c.more.new.source) kept.input_later c.in-Err.ensures.cause.failed (omega arith),
      may,
    ))

pub returns-in_err-pass_piece-clause-passes : goal.returns-in_err-pass_piece-clause-passes
returns-in_err-pass_piece-clause-passes g c =
    let error = err_from_is_err_and c.from_residual.result c.from_residual.ensures.1 in
    let same : error.0 ≡ c.in_err-pass_piece.field-0.0 = error.2 in
    let is : c.from_residual.result ≡ Err c.in_err-pass_piece.field-0.0 = error.1 ∙ ap Err same in
    let kept = c.reads.invariant in
    let why = c.in_err-pass_piece.field-0.0 in
    let parts = c.pass_piece.new.parts in
    let stop = option_map (λ (name : Bor (List ℕ)). name.now) c.args.how.stop in
    let files = g.L.Shelf.files c.args.shelf.now in
    let a : Moment = moment_of g.K.Sink.held g.K.Sink.faults g.E.Sink.held g.E.Sink.faults g.L.Shelf.faults c.args.out.now c.args.err.now c.args.shelf.now in
    let b : Moment = moment_of g.K.Sink.held g.K.Sink.faults g.E.Sink.held g.E.Sink.faults g.L.Shelf.faults c.reads.out c.reads.err c.reads.shelf in
    let d : Moment = moment_of g.K.Sink.held g.K.Sink.faults g.E.Sink.held g.E.Sink.faults g.L.Shelf.faults c.pass_piece.new.out c.pass_piece.new.err c.pass_piece.new.shelf in
    rw is
    (passes_stop c.args.how.telling stop files c.reads.parts parts c.reads.fed
    (outside_of g.S.Source.left g.S.Source.faults c.args.input.now c.more.new.source) (g.S.Source.left c.reads.input) a b d c.bytes.result.now why kept.so_far
    (piece_taken _ _ c.reads.unread c.more.new.self c.bytes.result.now c.bytes.ensures.bytes kept.unread c.more.ensures.text)
    kept.later c.pass_piece.ensures.later
    (halts_as c.args.how.telling stop (g.L.Shelf.files c.reads.shelf) files parts b d kept.so_far.bytes _ why kept.stay
    (c.in_err-pass_piece.ensures.ends kept.so_far.bytes kept.so_far.reads kept.so_far.fed_is)))

pub reads-preserved : goal.reads-preserved
reads-preserved g c =
    let kept = c.reads.invariant in
    let so_far = kept.so_far in
    let count : length c.bytes.result.now ≡ c.in-Ok.count = piece_long c.reads.unread c.more.new.self c.bytes.result.now c.in-Ok.count c.bytes.ensures.bytes c.in-Ok.ensures.grown kept.unread in
    let a : Moment = moment_of g.K.Sink.held g.K.Sink.faults g.E.Sink.held g.E.Sink.faults g.L.Shelf.faults c.args.out.now c.args.err.now c.args.shelf.now in
    let b : Moment = moment_of g.K.Sink.held g.K.Sink.faults g.E.Sink.held g.E.Sink.faults g.L.Shelf.faults c.reads.out c.reads.err c.reads.shelf in
    let d : Moment = moment_of g.K.Sink.held g.K.Sink.faults g.E.Sink.held g.E.Sink.faults g.L.Shelf.faults c.pass_piece.new.out c.pass_piece.new.err c.pass_piece.new.shelf in
    record {
      so_far = passes_more c.args.how.telling (option_map (λ (name : Bor (List ℕ)). name.now) c.args.how.stop) (g.L.Shelf.files c.reads.shelf) c.reads.parts
          c.pass_piece.new.parts c.reads.fed (c.reads.fed + c.in-Ok.count) (g.S.Source.left c.args.input.now) (g.S.Source.left c.reads.input)
          (g.S.Source.left c.more.new.source) a b d c.bytes.result.now so_far
          (piece_taken _ _ c.reads.unread c.more.new.self c.bytes.result.now c.bytes.ensures.bytes kept.unread c.more.ensures.text)
          (c.in_ok-pass_piece.ensures.within (refl {a = true})) (omega (arith, count)) kept.later c.pass_piece.ensures.later
          (c.in_ok-pass_piece.ensures.ends so_far.bytes so_far.reads so_far.fed_is);
      unread = c.use_up.ensures ∙ drop_all c.in-Ok.count c.more.new.self (omega (arith, count, ap length c.bytes.ensures.bytes));
      later = later_on a b d kept.later c.pass_piece.ensures.later;
      input_later = omega (arith, kept.input_later, c.more.ensures.cause.later);
      stay = c.pass_piece.ensures.stay ∙ kept.stay;
    }
