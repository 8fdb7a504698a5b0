use Rattle.std.proofs.Common.{◌≡◌, ℕ, ◌+◌, ◌-◌, ◌≤◌, ◌∙◌, ◌++◌, Bor, List, Err, ap, arith, drop, length, length-take, sym, take}
use Rattle.std.proofs.lemmas.List.{take_all}
use Rattle.std.proofs.lemmas.Result.{err_from_is_err_and}
use Rattle.std.specs.Option.{option_map}
use Rattle.finish_core.proofs.Going.{goes_on, goes_to, halts_as, halts_behind, later_on, reads_as}
use Rattle.finish_core.proofs.Jobs.{piece_rest, used_step}
use Rattle.finish_core.specs.Sides.{Moment, moment_of}
use Rattle.finish_core.proofs.passing.pass_events.Goals as goal

pub returns-in_err-at-clause-ends : goal.returns-in_err-at-clause-ends
returns-in_err-at-clause-ends g c =
    let error = err_from_is_err_and c.from_residual.result c.from_residual.ensures.1 in
    let same : error.0 ≡ c.in_err-at.field-0.0 = error.2 in
    let is : c.from_residual.result ≡ Err c.in_err-at.field-0.0 = error.1 ∙ ap Err same in
    let piece = c.args.piece.now in
    let kept = c.events.invariant in
    let stop = option_map (λ (name : Bor (List ℕ)). name.now) c.args.how.stop in
    let parts = c.pass_event.new.parts in
    let a : Moment = moment_of g.K.Sink.held g.K.Sink.faults g.E.Sink.held g.E.Sink.faults g.L.Shelf.faults c.args.out.now c.args.err.now c.args.shelf.now in
    let b : Moment = moment_of g.K.Sink.held g.K.Sink.faults g.E.Sink.held g.E.Sink.faults g.L.Shelf.faults c.events.out c.events.err c.events.shelf in
    let d : Moment = moment_of g.K.Sink.held g.K.Sink.faults g.E.Sink.held g.E.Sink.faults g.L.Shelf.faults c.pass_event.new.out c.pass_event.new.err c.pass_event.new.shelf in
    rw is (λ sofar full reads cut.
    let now : List ℕ = sofar ++ take c.events.at piece in
    halts_behind c.args.how.telling stop (g.L.Shelf.files c.args.shelf.now) parts a b d sofar now full c.in_err-at.field-0.0 kept.later
    c.pass_event.ensures.later (kept.goes sofar reads)
    (halts_as c.args.how.telling stop (g.L.Shelf.files c.events.shelf) (g.L.Shelf.files c.args.shelf.now) parts b d now full c.in_err-at.field-0.0
    kept.stay (c.in_err-at.ensures.halt now full (kept.reads sofar reads) (cut ∙ piece_rest sofar piece c.events.at kept.within))))

pub events-preserved : goal.events-preserved
events-preserved g c =
    let piece = c.args.piece.now in
    let at = c.events.at in
    let used = c.in_ok-at.field-0 in
    let kept = c.events.invariant in
    let a : Moment = moment_of g.K.Sink.held g.K.Sink.faults g.E.Sink.held g.E.Sink.faults g.L.Shelf.faults c.args.out.now c.args.err.now c.args.shelf.now in
    let b : Moment = moment_of g.K.Sink.held g.K.Sink.faults g.E.Sink.held g.E.Sink.faults g.L.Shelf.faults c.events.out c.events.err c.events.shelf in
    let d : Moment = moment_of g.K.Sink.held g.K.Sink.faults g.E.Sink.held g.E.Sink.faults g.L.Shelf.faults c.pass_event.new.out c.pass_event.new.err c.pass_event.new.shelf in
    let within : at + used ≤ length piece = omega (arith, c.in_ok-at.ensures.used, kept.within, length-take (length piece - at) (drop at piece)) in
    record {
      within = within;
      reads = λ sofar reads. reads_as c.pass_event.new.parts _ _ (used_step sofar piece at used kept.within)
          (c.in_ok-at.ensures.reads (sofar ++ take at piece) (kept.reads sofar reads));
      goes = λ sofar reads. goes_to c.args.how.telling a d sofar _ _ (used_step sofar piece at used kept.within)
          (goes_on c.args.how.telling a b d sofar (sofar ++ take at piece) _ kept.later c.pass_event.ensures.later (kept.goes sofar reads)
          (c.in_ok-at.ensures.goes (sofar ++ take at piece) (kept.reads sofar reads)));
      later = later_on a b d kept.later c.pass_event.ensures.later;
      stay = c.pass_event.ensures.stay ∙ kept.stay;
    }

pub returns-clause-ends : goal.returns-clause-ends
returns-clause-ends g c =
    let piece = c.args.piece.now in
    let kept = c.events.invariant in
    let a : Moment = moment_of g.K.Sink.held g.K.Sink.faults g.E.Sink.held g.E.Sink.faults g.L.Shelf.faults c.args.out.now c.args.err.now c.args.shelf.now in
    let b : Moment = moment_of g.K.Sink.held g.K.Sink.faults g.E.Sink.held g.E.Sink.faults g.L.Shelf.faults c.events.out c.events.err c.events.shelf in
    λ sofar full reads cut.
    let all = ap (λ bs. sofar ++ bs) (take_all c.events.at piece (omega (arith, c.events-test.false))) ∙ sym cut in
    (reads_as c.events.parts _ _ all (kept.reads sofar reads), goes_to c.args.how.telling a b sofar _ _ all (kept.goes sofar reads))
