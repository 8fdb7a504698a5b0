use Rattle.std.proofs.lemmas.Result.{err_from_is_err_and}
use Rattle.std.proofs.KnownBytes.{Keeps-refl}
use Rattle.driver_core.proofs.Runs.Performed.{performed, ready}
use Rattle.driver_core.proofs.running.work.Goals as goal

pub returns-in_err-prepared-clause-outcome : goal.returns-in_err-prepared-clause-outcome
returns-in_err-prepared-clause-outcome g c =
    let error = err_from_is_err_and c.from_residual.result c.from_residual.ensures.1 in
    rw (error.1, error.2)
    (c.in_err-prepared.ensures.answered _ _ (Keeps-refl (g.S.Source.left c.args.input.now)) (Keeps-refl (g.K.Sink.held c.args.out.now)))

pub perform-requires-after_bounds : goal.perform-requires-after_bounds
perform-requires-after_bounds g c κs within =
    ready c.args.words.now (g.F.Shelf.files c.args.shelf.now) c.in_ok-prepared.prepared c.in_ok-prepared.ensures.prepared

pub returns-clause-outcome : goal.returns-clause-outcome
returns-clause-outcome g c =
    performed c.args.words.now _ _ c.in_ok-prepared.prepared _
    c.in_ok-prepared.ensures.prepared c.in_ok-prepared.ensures.caps c.perform.ensures
