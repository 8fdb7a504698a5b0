use Rattle.std.proofs.Common.{arith}
use Rattle.std.proofs.lemmas.Result.{err_from_is_err_and}
use Rattle.spool_words.proofs.Accepted.{few_senders}
use Rattle.spool_words.proofs.Meanings.{accepted_words, all_senders, no_sender, refused_words}
use Rattle.spool_words.proofs.reading.read_spool_words.Goals as goal

pub returns-in_err-check_words : goal.returns-in_err-check_words
returns-in_err-check_words c =
    let error = err_from_is_err_and c.from_residual.result c.from_residual.ensures.1 in
    rw (error.1, error.2) (refused_words _ _ c.in_err-check_words.ensures.fault)

pub returns-then-senders-eq0 : goal.returns-then-senders-eq0
returns-then-senders-eq0 c =
    let all = all_senders c.args.words.now _ _ c.len.ensures.count c.count_before-senders.ensures in
    no_sender c.args.words.now _ _ c.in_ok-check_words.ensures.accepted all c.if-senders-eq0.true (omega arith)

pub returns : goal.returns
returns c =
    let all = all_senders c.args.words.now _ _ c.len.ensures.count c.count_before-senders.ensures in
    accepted_words c.args.words.now _ _ c.in_ok-check_words.ensures.accepted all c.if-senders-eq0.false c.request_given.ensures

pub overflow_cast-senders : goal.overflow_cast-senders
overflow_cast-senders c =
    let all = all_senders c.args.words.now _ _ c.len.ensures.count c.count_before-senders.ensures in
    omega (arith, all, few_senders c.args.words.now c.in_ok-check_words.ensures.accepted)
