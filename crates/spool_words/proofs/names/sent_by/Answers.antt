use Rattle.std.proofs.Common.{sym, ap, ◌∙◌, arith}
use Rattle.std.specs.List.{count_by}
use Rattle.std.proofs.lemmas.List.{take_all}
use Rattle.job_words.specs.Meaning.{gives}
use Rattle.spool_words.specs.Keys.{send_key}
use Rattle.spool_words.proofs.FirstWords.{one_fails, one_passes}
use Rattle.spool_words.proofs.SenderNames.{sent_here}
use Rattle.spool_words.proofs.names.sent_by.Goals as goal
use Rattle.spool_words.proofs.names.sent_by.Goals.{then-gives+else-senders-sender, else-gives}

pub returns-then-senders-sender : goal.returns-then-senders-sender
returns-then-senders-sender c =
    sent_here c.args.words.now c.loop-i.i c.args.sender c.loop-i.senders _ c.value_of.result.now c.get-word.ensures
    (sym c.gives.ensures ∙ c.if-gives.true) c.loop-i.invariant.count
    (omega (arith, c.if-senders-sender.true)) c.value_of.ensures

pub loop-i-preserved : goal.loop-i-preserved
loop-i-preserved c =
    elim c.if-gives.branch [
      | then-gives+else-senders-sender w ↦
          let more = one_passes (gives send_key) c.args.words.now c.loop-i.i _ c.get-word.ensures (sym c.gives.ensures ∙ w.if-gives.true) in
          record { count = omega (arith, more, c.loop-i.invariant.count); fewer = omega (arith, w.senders-is, c.loop-i.invariant.fewer) }
      | else-gives w ↦
          let same = one_fails (gives send_key) c.args.words.now c.loop-i.i _ c.get-word.ensures (sym c.gives.ensures ∙ w.if-gives.false) in
          record { count = omega (arith, same, c.loop-i.invariant.count); fewer = omega (arith, w.senders-is, c.loop-i.invariant.fewer) }
    ]

pub unreachable-requires : goal.unreachable-requires
unreachable-requires c =
    let all = ap (count_by (gives send_key)) (take_all c.loop-i.i c.args.words.now (omega arith)) in
    absurd (omega (arith, all, c.loop-i.invariant.count, c.loop-i.invariant.fewer, c.requires.within))
