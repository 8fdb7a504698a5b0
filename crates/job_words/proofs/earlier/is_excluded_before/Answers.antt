use Rattle.std.proofs.Common.{sym, ◌∙◌, arith}
use Rattle.job_words.specs.Meaning.{excludes}
use Rattle.job_words.proofs.FirstWords.{later_before, none_before, one_before}
use Rattle.job_words.proofs.earlier.is_excluded_before.Goals as goal

pub returns-then-excludes : goal.returns-then-excludes
returns-then-excludes c =
    sym (c.loop-i.invariant ∙ one_before (excludes c.args.word.now) _ c.loop-i.i c.args.place _ (omega arith) c.get.ensures
    (sym c.excludes.ensures ∙ c.if-excludes.true))

pub loop-i-preserved : goal.loop-i-preserved
loop-i-preserved c =
    c.loop-i.invariant ∙ later_before (excludes c.args.word.now) _ c.loop-i.i c.args.place _ (omega arith) c.get.ensures
    (sym c.excludes.ensures ∙ c.if-excludes.false)

pub returns : goal.returns
returns c = sym (c.loop-i.invariant ∙ none_before (excludes c.args.word.now) _ c.loop-i.i c.args.place (omega arith))
