use Rattle.std.proofs.Common.{sym, ap, ◌∙◌, arith, unwrap_or}
use Rattle.job_words.specs.Meaning.{gives}
use Rattle.finish_words.specs.Keys.{stop_key}
use Rattle.job_words.proofs.FirstWords.{at_later, at_none, at_place}
use Rattle.finish_words.proofs.given.stop_word.Goals as goal

pub returns-then-gives : goal.returns-then-gives
returns-then-gives c =
    ap (λ place. unwrap_or place 0) (sym (c.loop-i.invariant
    ∙ at_place (gives stop_key) _ _ c.loop-i.i _ c.get.ensures (sym c.gives.ensures ∙ c.if-gives.true)))

pub loop-i-preserved : goal.loop-i-preserved
loop-i-preserved c =
    c.loop-i.invariant ∙ at_later (gives stop_key) _ _ c.loop-i.i _ c.get.ensures (sym c.gives.ensures ∙ c.if-gives.false)

pub returns : goal.returns
returns c =
    ap (λ place. unwrap_or place 0) (sym (c.loop-i.invariant ∙ at_none (gives stop_key) _ c.args.words.now c.loop-i.i (omega arith)))
