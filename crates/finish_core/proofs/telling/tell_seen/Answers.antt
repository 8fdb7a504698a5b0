use Rattle.finish_core.proofs.Going.{tells_both}
use Rattle.finish_core.proofs.telling.tell_seen.Goals as goal

pub returns-in-Due-clause-tells : goal.returns-in-Due-clause-tells
returns-in-Due-clause-tells g c =
    rw c.in-Due.is
    (tells_both (g.E.Sink.held c.args.err.now) (g.E.Sink.held c.tell_progress.new.err) (g.E.Sink.held c.tell_page.new.err)
    (g.E.Sink.faults c.args.err.now) (g.E.Sink.faults c.tell_progress.new.err) (g.E.Sink.faults c.tell_page.new.err) _ _
    c.tell_progress.ensures.later c.tell_page.ensures.later c.tell_progress.ensures.tells c.tell_page.ensures.tells)
