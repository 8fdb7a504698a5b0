use Rattle.std.proofs.Common.{arith}
use Rattle.std.proofs.lemmas.Result.{err_from_is_err_and}
use Rattle.job_finisher.proofs.FinishedJobs.{piece_passed, piece_stopped, piece_too_long}
use Rattle.job_finisher.proofs.job.pass_piece.Goals as goal

pub returns-in_err-pass-clause-end : goal.returns-in_err-pass-clause-end
returns-in_err-pass-clause-end g c =
    let error = err_from_is_err_and c.from_residual.result c.from_residual.ensures.1 in
    λ sofar passed len. rw error.1
    (piece_stopped c.args.most c.args.fed c.pass.new.self _ sofar c.args.piece.now c.first_bytes.result.now c.in_err-pass.field-0.0 error.0 len
    c.requires.within c.first_bytes.ensures error.2 (c.in_err-pass.ensures.stop sofar passed))

pub returns-then-room-piece-clause-end : goal.returns-then-room-piece-clause-end
returns-then-room-piece-clause-end g c = λ sofar passed len.
    piece_too_long c.args.most c.args.fed c.pass.new.self _ sofar c.args.piece.now c.first_bytes.result.now len c.requires.within
    c.first_bytes.ensures (omega arith) (c.in_ok-pass.ensures.writes sofar passed) (c.in_ok-pass.ensures.passed sofar passed)

pub returns-clause-end : goal.returns-clause-end
returns-clause-end g c = λ sofar passed len.
    piece_passed c.args.most c.args.fed c.pass.new.self _ sofar c.args.piece.now c.first_bytes.result.now
    c.first_bytes.ensures (omega arith) (c.in_ok-pass.ensures.writes sofar passed) (c.in_ok-pass.ensures.passed sofar passed)
