use Rattle.std.proofs.lemmas.Result.{err_from_is_err_and}
use Rattle.finish_definitions.specs.Finished.{whole_commands}
use Rattle.job_finisher.proofs.PassedBytes.{left_fits, passed_more, passes_on, passes_part, stands_passed, stops_at_fault, stops_at_write}
use Rattle.job_finisher.specs.Passing.{in_hand}
use Rattle.job_finisher.proofs.finisher.JobFinisher.pass.Goals as goal

pub returns-in_err-write_whole-clause-stop : goal.returns-in_err-write_whole-clause-stop
returns-in_err-write_whole-clause-stop g c =
    let error = err_from_is_err_and c.from_residual.result c.from_residual.ensures.1 in
    let old = c.args.self.now in
    let heard = c.hear-heard in
    stops_at_write old _ _ c.args.piece.now c.from_residual.result error.0 error.1 error.2 c.in_err-write_whole.ensures.cause.failed
    (λ sofar passed. passes_part _ old heard.new.reader heard.new.state sofar c.args.piece.now heard.result passed
    (heard.ensures.hears (whole_commands sofar) (in_hand old) (stands_passed old sofar passed))
    c.in_err-write_whole.ensures.part)

pub keep_rest-requires-clause-room : goal.keep_rest-requires-clause-room
keep_rest-requires-clause-room g c =
    let old = c.args.self.now in
    let heard = c.hear-heard in
    let sofar = c.requires.passed.0 in
    left_fits old heard.new.reader heard.new.state sofar c.args.piece.now heard.result
    (heard.ensures.hears (whole_commands sofar) (in_hand old) (stands_passed old sofar c.requires.passed.1)) c.in-None.is

pub returns-in-Some-clause-stop : goal.returns-in-Some-clause-stop
returns-in-Some-clause-stop g c =
    let old = c.args.self.now in
    let heard = c.hear-heard in
    λ sofar passed.
    let ends = heard.ensures.hears (whole_commands sofar) (in_hand old) (stands_passed old sofar passed) in (
      passes_on _ old heard.new.reader heard.new.state sofar c.args.piece.now heard.result passed ends
          c.in_ok-write_whole.ensures.ok,
      stops_at_fault old heard.new.reader heard.new.state sofar c.args.piece.now heard.result c.in-Some.fault _ _ passed ends c.in-Some.is (cc) (cc),
    )

pub returns-in-None-clause-passed : goal.returns-in-None-clause-passed
returns-in-None-clause-passed g c =
    let old = c.args.self.now in
    let heard = c.hear-heard in
    λ sofar passed. passed_more old _ sofar c.args.piece.now heard.result passed
    (heard.ensures.hears (whole_commands sofar) (in_hand old) (stands_passed old sofar passed)) c.in-None.is c.keep_rest.ensures

pub returns-in-None-clause-writes : goal.returns-in-None-clause-writes
returns-in-None-clause-writes g c =
    let old = c.args.self.now in
    let heard = c.hear-heard in
    λ sofar passed. passes_on _ old heard.new.reader heard.new.state sofar c.args.piece.now heard.result passed
    (heard.ensures.hears (whole_commands sofar) (in_hand old) (stands_passed old sofar passed))
    c.in_ok-write_whole.ensures.ok
