use Rattle.std.proofs.Common.{◌≡◌, ℕ, ◌∙◌, Bor, List, Err, ap, arith, false, true}
use Rattle.std.proofs.lemmas.Result.{err_from_is_err_and}
use Rattle.std.specs.Option.{option_map}
use Rattle.buffered_bytes.specs.Outside.{outside_of}
use Rattle.finish_core.proofs.Ends.{end_failed, ends_at_first, ends_without, page_ended}
use Rattle.finish_core.proofs.Going.{tells_as, tells_none}
use Rattle.finish_core.proofs.Jobs.{job_as}
use Rattle.finish_core.specs.Passing.{ends_page}
use Rattle.finish_core.specs.Sides.{Moment, moment_of}
use Rattle.page_tally.specs.declared.tally.Tally.{Tally}
use Rattle.page_tally.specs.Lines.{cut_lines}
use Rattle.finish_core.proofs.running.finish.Goals as goal

pub returns-in_err-ask-clause-outcome : goal.returns-in_err-ask-clause-outcome
returns-in_err-ask-clause-outcome g c =
    let error = err_from_is_err_and c.from_residual-in_err-ask.result c.from_residual-in_err-ask.ensures.1 in
    let same : error.0 ≡ c.in_err-ask.field-0.0 = error.2 in
    let is : c.from_residual-in_err-ask.result ≡ Err c.in_err-ask.field-0.0 = error.1 ∙ ap Err same in
    rw is
    (ends_at_first c.args.how.telling (option_map (λ (name : Bor (List ℕ)). name.now) c.args.how.stop) (g.L.Shelf.files c.args.shelf.now)
    (g.S.Source.left c.args.input.now) (g.S.Source.faults c.args.input.now)
    (moment_of g.K.Sink.held g.K.Sink.faults g.E.Sink.held g.E.Sink.faults g.L.Shelf.faults c.args.out.now c.args.err.now c.args.shelf.now)
    (g.L.Shelf.faults c.ask.new.shelf) c.in_err-ask.field-0.0 c.in_err-ask.ensures.halt)

pub returns-then-not-ends_page-clause-outcome : goal.returns-then-not-ends_page-clause-outcome
returns-then-not-ends_page-clause-outcome g c =
    let passed = c.pass_job-passed in
    let without : ends_page passed.result ≡ false = cc in
    let a : Moment = moment_of g.K.Sink.held g.K.Sink.faults g.E.Sink.held g.E.Sink.faults g.L.Shelf.faults c.args.out.now c.args.err.now c.ask.new.shelf in
    let b : Moment = moment_of g.K.Sink.held g.K.Sink.faults g.E.Sink.held g.E.Sink.faults g.L.Shelf.faults passed.new.out passed.new.err passed.new.shelf in
    ends_without c.args.how.telling (option_map (λ (name : Bor (List ℕ)). name.now) c.args.how.stop) (g.L.Shelf.files c.args.shelf.now) passed.new.parts
    (outside_of g.S.Source.left g.S.Source.faults c.args.input.now passed.new.input) (g.L.Shelf.faults c.args.shelf.now) a b passed.result without
    c.ask.ensures.later c.in_ok-ask.ensures.lacks (job_as c.args.how.telling (option_map (λ (name : Bor (List ℕ)). name.now) c.args.how.stop) (g.L.Shelf.files c.ask.new.shelf)
    (g.L.Shelf.files c.args.shelf.now) passed.new.parts (outside_of g.S.Source.left g.S.Source.faults c.args.input.now passed.new.input)
    a b passed.result c.ask.ensures.stay passed.ensures.passes)

pub returns-in_err-end_page-clause-outcome : goal.returns-in_err-end_page-clause-outcome
returns-in_err-end_page-clause-outcome g c =
    let error = err_from_is_err_and c.from_residual-in_err-end_page.result c.from_residual-in_err-end_page.ensures.1 in
    let same : error.0 ≡ c.in_err-end_page.field-0.0 = error.2 in
    let is : c.from_residual-in_err-end_page.result ≡ Err c.in_err-end_page.field-0.0 = error.1 ∙ ap Err same in
    let passed = c.pass_job-passed in
    let ended : ends_page passed.result ≡ true = cc in
    let a : Moment = moment_of g.K.Sink.held g.K.Sink.faults g.E.Sink.held g.E.Sink.faults g.L.Shelf.faults c.args.out.now c.args.err.now c.ask.new.shelf in
    let b : Moment = moment_of g.K.Sink.held g.K.Sink.faults g.E.Sink.held g.E.Sink.faults g.L.Shelf.faults passed.new.out passed.new.err passed.new.shelf in
    let d : Moment = moment_of g.K.Sink.held g.K.Sink.faults g.E.Sink.held g.E.Sink.faults g.L.Shelf.faults c.end_page.new.out passed.new.err passed.new.shelf in
    rw is
    (end_failed c.args.how.telling (option_map (λ (name : Bor (List ℕ)). name.now) c.args.how.stop) (g.L.Shelf.files c.args.shelf.now) passed.new.parts
    (outside_of g.S.Source.left g.S.Source.faults c.args.input.now passed.new.input) (g.L.Shelf.faults c.args.shelf.now) a b d passed.result
    c.in_err-end_page.field-0.0 ended c.in_ok-ask.ensures.lacks (job_as c.args.how.telling (option_map (λ (name : Bor (List ℕ)). name.now) c.args.how.stop) (g.L.Shelf.files c.ask.new.shelf)
    (g.L.Shelf.files c.args.shelf.now) passed.new.parts (outside_of g.S.Source.left g.S.Source.faults c.args.input.now passed.new.input)
    a b passed.result c.ask.ensures.stay passed.ensures.passes)
    passed.ensures.later (omega arith) c.in_err-end_page.ensures.part
    (tells_none (g.E.Sink.held passed.new.err) (g.E.Sink.faults passed.new.err) (g.E.Sink.faults passed.new.err)))

pub returns-clause-outcome : goal.returns-clause-outcome
returns-clause-outcome g c =
    let passed = c.pass_job-passed in
    let ended : ends_page passed.result ≡ true = cc in
    let a : Moment = moment_of g.K.Sink.held g.K.Sink.faults g.E.Sink.held g.E.Sink.faults g.L.Shelf.faults c.args.out.now c.args.err.now c.ask.new.shelf in
    let b : Moment = moment_of g.K.Sink.held g.K.Sink.faults g.E.Sink.held g.E.Sink.faults g.L.Shelf.faults passed.new.out passed.new.err passed.new.shelf in
    let d : Moment = moment_of g.K.Sink.held g.K.Sink.faults g.E.Sink.held g.E.Sink.faults g.L.Shelf.faults c.end_page.new.out c.tell_cut.new.err passed.new.shelf in
    page_ended c.args.how.telling (option_map (λ (name : Bor (List ℕ)). name.now) c.args.how.stop) (g.L.Shelf.files c.args.shelf.now) passed.new.parts
    (outside_of g.S.Source.left g.S.Source.faults c.args.input.now passed.new.input) (g.L.Shelf.faults c.args.shelf.now) a b d passed.result
    ended c.in_ok-ask.ensures.lacks (job_as c.args.how.telling (option_map (λ (name : Bor (List ℕ)). name.now) c.args.how.stop) (g.L.Shelf.files c.ask.new.shelf)
    (g.L.Shelf.files c.args.shelf.now) passed.new.parts (outside_of g.S.Source.left g.S.Source.faults c.args.input.now passed.new.input)
    a b passed.result c.ask.ensures.stay passed.ensures.passes)
    passed.ensures.later c.tell_cut.ensures.later c.in_ok-end_page.ensures.ok
    (tells_as (outside_of g.E.Sink.held g.E.Sink.faults passed.new.err c.tell_cut.new.err) _ _
    (ap (λ (t : Tally). cut_lines c.args.how.telling t t.state) c.tally.ensures) c.tell_cut.ensures.tells)
