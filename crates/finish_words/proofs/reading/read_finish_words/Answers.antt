use Rattle.std.proofs.Common.{refl}
use Rattle.std.proofs.lemmas.Result.{err_from_is_err_and}
use Rattle.finish_words.proofs.Meanings.{accepted_words, refused_words}
use Rattle.finish_words.proofs.reading.read_finish_words.Goals as goal

pub returns-in_err-check_words : goal.returns-in_err-check_words
returns-in_err-check_words c =
    let error = err_from_is_err_and c.from_residual.result c.from_residual.ensures.1 in
    rw (error.1, error.2) (refused_words _ _ c.in_err-check_words.ensures.fault)

pub returns : goal.returns
returns c =
    accepted_words c.args.words.now _ c.in_ok-check_words.ensures.accepted
    (rw (c.is_set.ensures, c.is_set-2.ensures, c.stop_word.ensures) refl)
