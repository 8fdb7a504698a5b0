use Rattle.std.proofs.Common.{arith, ◌∙◌}
use Rattle.std.proofs.lemmas.Result.{err_from_is_err_and}
use Rattle.spool_core.proofs.Reports.{lines_so_far, part_of_lines}
use Rattle.spool_core.proofs.report.tell_done.Goals as goal

pub returns-in_err-put_all-clause-part : goal.returns-in_err-put_all-clause-part
returns-in_err-put_all-clause-part g c =
    let error = err_from_is_err_and c.from_residual.result c.from_residual.ensures.1 in
    let bytes = c.as_bytes.ensures.value ∙ c.deref.ensures.0 ∙ c.push_ran.ensures in
    rw error.1 (part_of_lines (g.E.Sink.held c.args.err.now) (g.E.Sink.held c.loop-ran.err) (g.E.Sink.held c.put_all.new.k) c.args.done.now c.loop-ran.ran-index _
    c.as_bytes.result.now (omega arith) bytes c.loop-ran.invariant.so_far c.in_err-put_all.ensures.part)

pub loop-ran-preserved : goal.loop-ran-preserved
loop-ran-preserved g c =
    let bytes = c.as_bytes.ensures.value ∙ c.deref.ensures.0 ∙ c.push_ran.ensures in
    record {
      so_far = lines_so_far (g.E.Sink.held c.args.err.now) (g.E.Sink.held c.loop-ran.err) (g.E.Sink.held c.put_all.new.k) c.args.done.now c.loop-ran.ran-index _
          c.as_bytes.result.now (omega arith) bytes c.loop-ran.invariant.so_far c.in_ok-put_all.ensures.ok;
      later = omega (arith, c.loop-ran.invariant.later, c.in_ok-put_all.ensures.cause.later);
    }
