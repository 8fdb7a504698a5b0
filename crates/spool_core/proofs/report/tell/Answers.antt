use Rattle.std.proofs.Common.{◌≡◌, ◌∙◌, refl}
use Rattle.driver_core.specs.Outside.{outside_of}
use Rattle.spool_core.specs.Answers.{report_lines, spool_line}
use Rattle.spool_core.proofs.Reports.{all_told, tells_both}
use Rattle.spool_core.proofs.report.tell.Goals as goal

pub returns : goal.returns
returns g c =
    let bytes : c.as_bytes.result.now ≡ spool_line c.args.answer.now = c.as_bytes.ensures.value ∙ c.deref.ensures.0 ∙ c.text.ensures in
    tells_both c.put_all.result (outside_of g.E.Sink.held g.E.Sink.faults c.args.err.now c.put_all.new.k) (g.E.Sink.held c.tell_done.new.err)
    (g.E.Sink.faults c.tell_done.new.err) (report_lines c.args.done.now) (spool_line c.args.answer.now) c.as_bytes.result.now bytes
    (all_told c.tell_done.result (c.is_err.ensures.value ∙ refl) c.tell_done.ensures.ok c.if-is_err.false) c.tell_done.ensures.later
    c.put_all.ensures.ok c.put_all.ensures.part c.put_all.ensures.cause
