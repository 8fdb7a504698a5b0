use Rattle.std.proofs.Common.{false, true, ◌≡◌}
use Rattle.std.proofs.lemmas.Result.{err_from_is_err_and}
use Rattle.buffered_bytes.specs.Outside.{outside_of}
use Rattle.job_finisher.specs.Job.{is_write_failure}
use Rattle.job_finisher.proofs.FinishedJobs.{end_failed, finish_nothing, job_finished, write_failed}
use Rattle.job_finisher.proofs.job.finish_job.Goals as goal

pub returns-in_err-finisher : goal.returns-in_err-finisher
returns-in_err-finisher g c =
    let error = err_from_is_err_and c.from_residual.result c.from_residual.ensures.1 in
    rw (error.1, error.2) (finish_nothing c.args.most)

pub returns-in_err-unread : goal.returns-in_err-unread
returns-in_err-unread g c =
    let error = err_from_is_err_and c.from_residual-in_err-unread.result c.from_residual-in_err-unread.ensures.1 in
    rw (error.1, error.2) (finish_nothing c.args.most)

pub returns-then-is_write_failure : goal.returns-then-is_write_failure
returns-then-is_write_failure g c =
    let failed : is_write_failure c.pass_job-answer.result ≡ true = cc in
    write_failed c.args.most c.pass_job-answer.new.finisher _ _ c.pass_job-answer.result failed c.pass_job-answer.ensures.passes

pub returns-in_err-end : goal.returns-in_err-end
returns-in_err-end g c =
    let error = err_from_is_err_and c.from_residual-in_err-end.result c.from_residual-in_err-end.ensures.1 in
    let answer = c.pass_job-answer in
    let fine : is_write_failure c.pass_job-answer.result ≡ false = cc in
    rw (error.1, error.2)
    (end_failed c.args.most answer.new.finisher _ (outside_of g.K.Sink.held g.K.Sink.faults c.args.out.now c.end.new.out)
    (g.K.Sink.held answer.new.out) (g.K.Sink.faults answer.new.out) answer.result fine answer.ensures.passes answer.ensures.later
    c.in_err-end.ensures.cause.failed c.in_err-end.ensures.part)

pub returns : goal.returns
returns g c =
    let answer = c.pass_job-answer in
    let fine : is_write_failure c.pass_job-answer.result ≡ false = cc in
    job_finished c.args.most answer.new.finisher _ (outside_of g.K.Sink.held g.K.Sink.faults c.args.out.now c.end.new.out)
    (g.K.Sink.held answer.new.out) (g.K.Sink.faults answer.new.out) answer.result fine answer.ensures.passes c.in_ok-end.ensures.ok
