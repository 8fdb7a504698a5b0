use Rattle.std.proofs.Common.{true, false, refl}
use Rattle.job_words.proofs.Faults.{fault_of_value, no_key, no_key_value}
use Rattle.finish_words.specs.Keys.{key_table}
use Rattle.finish_words.specs.Rows.{key_row}
use Rattle.finish_words.proofs.Alone.{never_excluded}
use Rattle.finish_words.proofs.reading.refusal.Goals as goal

pub returns-in_default : goal.returns-in_default
returns-in_default c = no_key_value key_table _ c.args.word.now c.in_default.ensures

pub returns-in_default-named : goal.returns-in_default-named
returns-in_default-named c =
    let parts = c.in-Some.ensures in
    no_key key_table _ c.args.word.now _ parts.0 parts.1 c.in_default-named.ensures

pub returns-then-is_given_before : goal.returns-then-is_given_before
returns-then-is_given_before c =
    fault_of_value key_table _ c.args.word.now _ _ (key_row c.in-Some-named.key) true _ _ c.in-Some.ensures c.in-Some-named.ensures
    c.if-is_given_before.ensures refl refl

pub returns-then-not-takes : goal.returns-then-not-takes
returns-then-not-takes c =
    fault_of_value key_table _ c.args.word.now _ _ (key_row c.in-Some-named.key) false false _ c.in-Some.ensures c.in-Some-named.ensures
    c.if-is_given_before.ensures c.if-not-takes.ensures refl

pub returns-else-not-takes : goal.returns-else-not-takes
returns-else-not-takes c =
    let alone = never_excluded (key_row c.in-Some-named.key) _ c.args.word.now _ c.in-Some.ensures.1 c.in-Some-named.ensures in
    fault_of_value key_table _ c.args.word.now _ _ (key_row c.in-Some-named.key) false true false c.in-Some.ensures c.in-Some-named.ensures
    c.if-is_given_before.ensures c.if-not-takes.ensures alone
