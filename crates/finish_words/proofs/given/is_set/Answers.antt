use Rattle.std.proofs.Common.{refl}
use Rattle.job_words.specs.Meaning.{given}
use Rattle.job_words.specs.Values.{shingle_value}
use Rattle.job_words.proofs.Given.{read_of}
use Rattle.finish_words.specs.Rows.{key_row}
use Rattle.finish_words.proofs.given.is_set.Goals as goal

pub returns : goal.returns
returns c =
    let value = read_of shingle_value (given (key_row c.args.key) c.args.words.now) _ _ c.value_given.ensures c.and_then.ensures in
    rw (c.unwrap_or.ensures, value) refl
