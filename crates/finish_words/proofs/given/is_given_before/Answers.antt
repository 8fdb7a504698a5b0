use Rattle.std.proofs.Common.{sym, ◌∙◌, arith}
use Rattle.job_words.specs.Meaning.{gives}
use Rattle.finish_words.specs.Rows.{key_row}
use Rattle.job_words.proofs.FirstWords.{later_before, none_before, one_before}
use Rattle.finish_words.proofs.given.is_given_before.Goals as goal

pub returns-then-gives : goal.returns-then-gives
returns-then-gives c =
    sym (c.loop-i.invariant ∙ one_before (gives (key_row c.args.key)) _ c.loop-i.i c.args.place _ (omega arith) c.get.ensures
    (sym c.gives.ensures ∙ c.if-gives.true))

pub loop-i-preserved : goal.loop-i-preserved
loop-i-preserved c =
    c.loop-i.invariant ∙ later_before (gives (key_row c.args.key)) _ c.loop-i.i c.args.place _ (omega arith) c.get.ensures
    (sym c.gives.ensures ∙ c.if-gives.false)

pub returns : goal.returns
returns c = sym (c.loop-i.invariant ∙ none_before (gives (key_row c.args.key)) _ c.loop-i.i c.args.place (omega arith))
