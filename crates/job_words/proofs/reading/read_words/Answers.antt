use Rattle.std.proofs.lemmas.Result.{err_from_is_err_and}
use Rattle.job_words.specs.Rows.{command_row}
use Rattle.job_words.proofs.Meanings.{no_words, no_command, refused_words, accepted_words}
use Rattle.job_words.proofs.reading.read_words.Goals as goal

pub returns-then-is_empty : goal.returns-then-is_empty
returns-then-is_empty c = no_words _ (c.is_empty.ensures.0 c.if-is_empty.true)

pub returns-in_default : goal.returns-in_default
returns-in_default c = no_command _ _ c.get.ensures c.in_default.ensures

pub returns-in_err-check_words : goal.returns-in_err-check_words
returns-in_err-check_words c =
    let error = err_from_is_err_and c.from_residual.result c.from_residual.ensures.1 in
    rw (error.1, error.2) (refused_words _ _ (command_row c.in-Some.verb) _ c.get.ensures c.in-Some.ensures c.in_err-check_words.ensures.fault)

pub returns : goal.returns
returns c =
    accepted_words _ _ c.in-Some.verb _ c.get.ensures c.in-Some.ensures c.in_ok-check_words.ensures.accepted c.job_given.ensures
