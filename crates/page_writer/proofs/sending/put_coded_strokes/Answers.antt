use Rattle.std.proofs.Common.{◌≡◌, ◌+◌, ◌-◌, arith, subst, sym}
use Rattle.std.proofs.lemmas.List.{get_or-set_other}
use Rattle.weave_base.proofs.Parting.{on_err_anyway}
use Rattle.page_writer.specs.Heads.{HeadPage}
use Rattle.page_writer.specs.Outlets.{outlet_of}
use Rattle.page_writer.specs.Pieces.{IsCoded, SendsStrokes}
use Rattle.page_writer.specs.declared.coded.Coded.{Coded}
use Rattle.page_writer.specs.declared.coded.Sent.{Sent}
use Rattle.page_writer.proofs.Pieces.{each_set, part_join, sends_join, sent_fits}
use Rattle.page_writer.proofs.sending.put_coded_strokes.Goals as goal

pub returns-in_err-one-clause-part : goal.returns-in_err-one-clause-part
returns-in_err-one-clause-part g c =
    on_err_anyway _ (part_join c.strokes.stroke 1 (c.args.end - c.args.first) (omega arith) (omega arith)
    c.strokes.invariant.sent c.in_err-one.ensures.part)

pub returns-in_err-one-clause-room : goal.returns-in_err-one-clause-room
returns-in_err-one-clause-room g c = each_set _ _ _ _ c.strokes.invariant.room c.in_err-one.ensures.room

pub and_then-sent-requires-clause-bytes : goal.and_then-sent-requires-clause-bytes
and_then-sent-requires-clause-bytes g c =
    let fit = sent_fits c.requires.page c.strokes.invariant.sent c.in_ok-one.ensures.ok (omega arith) in
    omega (arith, fit)

pub strokes-preserved : goal.strokes-preserved
strokes-preserved g c =
    let page : HeadPage = g.S.Strokes.page c.args.page.now in
    record {
      sent = let P : Sent → Type 0 = SendsStrokes page c.args.last c.args.first (c.strokes.stroke + 1 - c.args.first)
          (outlet_of (g.K.Sink.held c.args.sink.now) c.args.waiting.now.items)
          (outlet_of (g.K.Sink.held c.put_coded.new.sink) c.put_coded.new.waiting.items) in
          subst P (sym c.and_then-sent.ensures) (sends_join (omega arith) (omega arith) c.strokes.invariant.sent c.in_ok-one.ensures.ok);
      coded = λ k d low high.
          let other : k ≡ c.strokes.stroke - c.args.first → ⊥ = omega arith in
          let P : Coded → Type 0 = IsCoded page (c.args.first + k) in
          subst P (sym (get_or-set_other c.strokes.strokes (c.strokes.stroke - c.args.first) k c.put_coded.new.coded d other))
          (c.strokes.invariant.coded k d (omega arith) high);
      room = each_set _ _ _ _ c.strokes.invariant.room c.in_ok-one.ensures.room;
      capacity = omega (arith, c.strokes.invariant.capacity, c.in_ok-one.ensures.capacity);
      later = omega (arith, c.strokes.invariant.later, c.in_ok-one.ensures.cause.later);
    }
