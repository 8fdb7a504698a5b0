use Rattle.std.proofs.Common.{sym, ap, ◌∙◌, arith, Some}
use Rattle.std.specs.Option.{option_map}
use Rattle.key_values.specs.Pairs.{value_of}
use Rattle.job_words.specs.Meaning.{gives}
use Rattle.job_words.proofs.FirstWords.{found, found_later, not_found}
use Rattle.finish_words.specs.Rows.{key_row}
use Rattle.finish_words.proofs.given.value_given.Goals as goal

pub returns-then-gives : goal.returns-then-gives
returns-then-gives c =
    ap Some c.value_of.ensures
    ∙ ap (option_map value_of) (sym (c.loop-i.invariant
    ∙ found (gives (key_row c.args.key)) _ c.loop-i.i _ c.get-word.ensures (sym c.gives.ensures ∙ c.if-gives.true)))

pub loop-i-preserved : goal.loop-i-preserved
loop-i-preserved c =
    c.loop-i.invariant ∙ found_later (gives (key_row c.args.key)) _ c.loop-i.i _ c.get-word.ensures (sym c.gives.ensures ∙ c.if-gives.false)

pub returns : goal.returns
returns c =
    ap (option_map value_of) (sym (c.loop-i.invariant ∙ not_found (gives (key_row c.args.key)) c.args.words.now c.loop-i.i (omega arith)))
