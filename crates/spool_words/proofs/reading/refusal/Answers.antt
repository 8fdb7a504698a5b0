use Rattle.std.proofs.Common.{true, false, arith}
use Rattle.spool_words.specs.Rows.{key_row}
use Rattle.spool_words.proofs.Causes.{by_value, no_key, no_key_value, too_many}
use Rattle.spool_words.proofs.reading.refusal.Goals as goal

pub returns-in_default : goal.returns-in_default
returns-in_default c = no_key_value _ c.args.word.now c.in_default.ensures

pub returns-in_default-named : goal.returns-in_default-named
returns-in_default-named c =
    let parts = c.in-Some.ensures in
    no_key _ c.args.word.now _ parts.0 parts.1 c.in_default-named.ensures

pub returns-then-count_before-most : goal.returns-then-count_before-most
returns-then-count_before-most c =
    too_many _ c.args.word.now _ _ (key_row c.in-Some-named.key) _ _ _ c.in-Some.ensures c.in-Some-named.ensures c.count_before.ensures
    c.most.ensures (omega (arith, c.if-count_before-most.true)) c.excess.ensures

pub returns-then-not-takes : goal.returns-then-not-takes
returns-then-not-takes c =
    by_value _ c.args.word.now _ _ (key_row c.in-Some-named.key) _ _ false c.in-Some.ensures c.in-Some-named.ensures c.count_before.ensures
    c.most.ensures (omega (arith, c.if-count_before-most.false)) c.if-not-takes.ensures

pub returns-else-not-takes : goal.returns-else-not-takes
returns-else-not-takes c =
    by_value _ c.args.word.now _ _ (key_row c.in-Some-named.key) _ _ true c.in-Some.ensures c.in-Some-named.ensures c.count_before.ensures
    c.most.ensures (omega (arith, c.if-count_before-most.false)) c.if-not-takes.ensures
