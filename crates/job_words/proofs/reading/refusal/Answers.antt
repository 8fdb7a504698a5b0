use Rattle.std.proofs.Common.{true, false, refl}
use Rattle.job_words.specs.Rows.{key_row}
use Rattle.job_words.proofs.Faults.{fault_of_value, no_key, no_key_value}
use Rattle.job_words.proofs.reading.refusal.Goals as goal

pub returns-in_default : goal.returns-in_default
returns-in_default c = no_key_value _ _ c.args.word.now c.in_default.ensures

pub returns-in_default-key : goal.returns-in_default-key
returns-in_default-key c =
    let parts = c.in-Some.ensures in
    no_key _ _ c.args.word.now _ parts.0 parts.1 c.in_default-key.ensures

pub returns-then-is_given_before : goal.returns-then-is_given_before
returns-then-is_given_before c =
    fault_of_value _ _ c.args.word.now _ _ (key_row c.in-Some-key.key) true _ _ c.in-Some.ensures c.in-Some-key.ensures
    c.if-is_given_before.ensures refl refl

pub returns-then-not-takes : goal.returns-then-not-takes
returns-then-not-takes c =
    fault_of_value _ _ c.args.word.now _ _ (key_row c.in-Some-key.key) false false _ c.in-Some.ensures c.in-Some-key.ensures
    c.if-is_given_before.ensures c.if-not-takes.ensures refl

pub returns-then-is_excluded_before : goal.returns-then-is_excluded_before
returns-then-is_excluded_before c =
    fault_of_value _ _ c.args.word.now _ _ (key_row c.in-Some-key.key) false true true c.in-Some.ensures c.in-Some-key.ensures
    c.if-is_given_before.ensures c.if-not-takes.ensures c.if-is_excluded_before.ensures

pub returns-else-is_excluded_before : goal.returns-else-is_excluded_before
returns-else-is_excluded_before c =
    fault_of_value _ _ c.args.word.now _ _ (key_row c.in-Some-key.key) false true false c.in-Some.ensures c.in-Some-key.ensures
    c.if-is_given_before.ensures c.if-not-takes.ensures c.if-is_excluded_before.ensures
