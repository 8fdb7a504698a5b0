use Rattle.std.proofs.Common.{sym, ◌∙◌, arith}
use Rattle.job_words.specs.Meaning.{gives}
use Rattle.spool_words.specs.Rows.{key_row}
use Rattle.spool_words.proofs.FirstWords.{few_pass, one_fails, one_passes}
use Rattle.spool_words.proofs.given.count_before.Goals as goal
use Rattle.spool_words.proofs.given.count_before.Goals.{then-gives, else-gives}

pub overflow_add-count : goal.overflow_add-count
overflow_add-count c =
    omega (arith, c.loop-i.invariant, few_pass (gives (key_row c.args.key).row) c.args.words.now c.loop-i.i (omega arith))

pub loop-i-preserved : goal.loop-i-preserved
loop-i-preserved c =
    elim c.if-gives.branch [
      | then-gives w ↦
          let more = one_passes (gives (key_row c.args.key).row) c.args.words.now c.loop-i.i _ c.get.ensures (sym c.gives.ensures ∙ w.if-gives.true) in
          omega (arith, more, c.loop-i.invariant)
      | else-gives w ↦
          let same = one_fails (gives (key_row c.args.key).row) c.args.words.now c.loop-i.i _ c.get.ensures (sym c.gives.ensures ∙ w.if-gives.false) in
          omega (arith, same, c.loop-i.invariant)
    ]
