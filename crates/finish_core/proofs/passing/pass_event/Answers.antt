use Rattle.std.proofs.Common.{◌≡◌, ℕ, ◌∙◌, ◌++◌, List, Err, ap, arith, drop, take}
use Rattle.std.proofs.lemmas.Result.{err_from_is_err_and}
use Rattle.buffered_bytes.specs.Outside.{outside_of}
use Rattle.finish_core.proofs.Going.{ask_halts, goes_event, halts_between, stop_halts, tells_as, tells_none}
use Rattle.finish_core.proofs.Seen.{job_split, reset_seen}
use Rattle.finish_core.specs.Sides.{Moment, moment_of}
use Rattle.page_watch.specs.Watching.{seen_lines}
use Rattle.finish_core.proofs.passing.pass_event.Goals as goal

pub returns-in_err-seen-clause-halt : goal.returns-in_err-seen-clause-halt
returns-in_err-seen-clause-halt g c =
    let error = err_from_is_err_and c.from_residual.result c.from_residual.ensures.1 in
    let same : error.0 ≡ c.in_err-seen.field-0.0 = error.2 in
    let is : c.from_residual.result ≡ Err c.in_err-seen.field-0.0 = error.1 ∙ ap Err same in
    rw is (λ sofar full reads cut.
    stop_halts c.args.how.telling _ _ c.pass_on.new.self
    (moment_of g.K.Sink.held g.K.Sink.faults g.E.Sink.held g.E.Sink.faults g.L.Shelf.faults c.args.out.now c.args.err.now c.args.shelf.now)
    (moment_of g.K.Sink.held g.K.Sink.faults g.E.Sink.held g.E.Sink.faults g.L.Shelf.faults c.pass_on.new.out c.args.err.now c.args.shelf.now)
    sofar full c.in_err-seen.field-0.0 (c.in_err-seen.ensures.stop sofar full reads cut)
    (tells_none (g.E.Sink.held c.args.err.now) (g.E.Sink.faults c.args.err.now) (g.E.Sink.faults c.args.err.now)))

pub returns-in_err-ask_behind-clause-halt : goal.returns-in_err-ask_behind-clause-halt
returns-in_err-ask_behind-clause-halt g c =
    let error = err_from_is_err_and c.from_residual-in_err-ask_behind.result c.from_residual-in_err-ask_behind.ensures.1 in
    let same : error.0 ≡ c.in_err-ask_behind.field-0.0 = error.2 in
    let is : c.from_residual-in_err-ask_behind.result ≡ Err c.in_err-ask_behind.field-0.0 = error.1 ∙ ap Err same in
    let parts = c.pass_on.new.self in
    let state = c.in_ok-seen.seen.state in
    let used = c.in_ok-seen.seen.used in
    let a : Moment = moment_of g.K.Sink.held g.K.Sink.faults g.E.Sink.held g.E.Sink.faults g.L.Shelf.faults c.args.out.now c.args.err.now c.args.shelf.now in
    let b : Moment = moment_of g.K.Sink.held g.K.Sink.faults g.E.Sink.held g.E.Sink.faults g.L.Shelf.faults c.pass_on.new.out c.tell_seen.new.err c.ask_behind.new.shelf in
    let tells = tells_as (outside_of g.E.Sink.held g.E.Sink.faults c.args.err.now c.tell_seen.new.err) _ _
    (ap (λ t. seen_lines c.args.how.telling t state) c.tally.ensures) c.tell_seen.ensures.tells in
    rw is (λ sofar full reads cut.
    let after : List ℕ = sofar ++ take used c.args.piece.now in
    let passes = c.in_ok-seen.ensures.passes sofar reads in
    ask_halts c.args.how.telling _ _ parts a b (g.L.Shelf.faults c.args.shelf.now) sofar full c.in_err-ask_behind.field-0.0
    (halts_between c.args.how.telling a b sofar after (drop used c.args.piece.now) full
    (reset_seen c.args.how.telling parts _ sofar after state passes c.in_err-ask_behind.ensures.reset)
    (job_split sofar c.args.piece.now full used cut)
    (goes_event c.args.how.telling parts a b sofar after state passes tells))
    (omega arith) c.in_err-ask_behind.ensures.halt)

pub returns-clause-goes : goal.returns-clause-goes
returns-clause-goes g c =
    let parts = c.pass_on.new.self in
    let state = c.in_ok-seen.seen.state in
    let a : Moment = moment_of g.K.Sink.held g.K.Sink.faults g.E.Sink.held g.E.Sink.faults g.L.Shelf.faults c.args.out.now c.args.err.now c.args.shelf.now in
    let b : Moment = moment_of g.K.Sink.held g.K.Sink.faults g.E.Sink.held g.E.Sink.faults g.L.Shelf.faults c.pass_on.new.out c.tell_seen.new.err c.ask_behind.new.shelf in
    λ sofar reads. goes_event c.args.how.telling parts a b sofar (sofar ++ take c.in_ok-seen.seen.used c.args.piece.now) state
    (c.in_ok-seen.ensures.passes sofar reads)
    (tells_as (outside_of g.E.Sink.held g.E.Sink.faults c.args.err.now c.tell_seen.new.err) _ _
    (ap (λ t. seen_lines c.args.how.telling t state) c.tally.ensures) c.tell_seen.ensures.tells)
