use Rattle.std.proofs.Common.{◌≡◌, ℕ, ◌∙◌, ◌++◌, Bor, List, Err, ap, arith, sym}
use Rattle.std.proofs.lemmas.Result.{err_from_is_err_and}
use Rattle.std.specs.Option.{option_map}
use Rattle.finish_core.proofs.Jobs.{cut_piece, too_long}
use Rattle.finish_core.specs.Sides.{moment_of}
use Rattle.finish_core.proofs.passing.pass_piece.Goals as goal

pub returns-in_err-pass_events-clause-ends : goal.returns-in_err-pass_events-clause-ends
returns-in_err-pass_events-clause-ends g c =
    let error = err_from_is_err_and c.from_residual.result c.from_residual.ensures.1 in
    let same : error.0 ≡ c.in_err-pass_events.field-0.0 = error.2 in
    let is : c.from_residual.result ≡ Err c.in_err-pass_events.field-0.0 = error.1 ∙ ap Err same in
    let piece = c.args.piece.now in
    rw is (λ sofar reads len.
    c.in_err-pass_events.ensures.ends sofar (sofar ++ piece) reads
    (cut_piece c.args.fed sofar piece len c.requires.within ∙ ap (λ bs. sofar ++ bs) (sym c.first_bytes.ensures)))

pub returns-then-room-piece-clause-ends : goal.returns-then-room-piece-clause-ends
returns-then-room-piece-clause-ends g c =
    let piece = c.args.piece.now in
    λ sofar reads len.
    too_long c.args.how.telling (option_map (λ (name : Bor (List ℕ)). name.now) c.args.how.stop) (g.L.Shelf.files c.args.shelf.now) c.pass_events.new.parts
    (moment_of g.K.Sink.held g.K.Sink.faults g.E.Sink.held g.E.Sink.faults g.L.Shelf.faults c.args.out.now c.args.err.now c.args.shelf.now)
    (moment_of g.K.Sink.held g.K.Sink.faults g.E.Sink.held g.E.Sink.faults g.L.Shelf.faults c.pass_events.new.out c.pass_events.new.err c.pass_events.new.shelf)
    c.args.fed sofar piece c.first_bytes.result.now len c.requires.within c.first_bytes.ensures (omega arith)
    (c.in_ok-pass_events.ensures.ends sofar (sofar ++ piece) reads
    (cut_piece c.args.fed sofar piece len c.requires.within ∙ ap (λ bs. sofar ++ bs) (sym c.first_bytes.ensures)))

pub returns-clause-ends : goal.returns-clause-ends
returns-clause-ends g c =
    let piece = c.args.piece.now in
    λ sofar reads len.
    c.in_ok-pass_events.ensures.ends sofar (sofar ++ piece) reads
    (cut_piece c.args.fed sofar piece len c.requires.within ∙ ap (λ bs. sofar ++ bs) (sym c.first_bytes.ensures))
