use Rattle.std.proofs.Common.{◌+◌, arith, subst, sym}
use Rattle.weave_base.proofs.Parting.{on_err_anyway}
use Rattle.page_writer.specs.Heads.{HeadPage}
use Rattle.page_writer.specs.Outlets.{outlet_of}
use Rattle.page_writer.specs.Pieces.{SendsStrokes}
use Rattle.page_writer.specs.declared.coded.Sent.{Sent}
use Rattle.page_writer.proofs.Pieces.{part_join, sends_join, sent_fits}
use Rattle.page_writer.proofs.alone.put_alone.Goals as goal

pub returns-in_err-one-clause-part : goal.returns-in_err-one-clause-part
returns-in_err-one-clause-part g c =
    on_err_anyway _ (part_join c.strokes.stroke 1 (g.S.Strokes.page c.args.page.now).head.count (omega arith) (omega arith)
    c.strokes.invariant.sent c.in_err-one.ensures.part)

pub and_then-sent-requires-clause-bytes : goal.and_then-sent-requires-clause-bytes
and_then-sent-requires-clause-bytes g c =
    let fit = sent_fits c.requires.page c.strokes.invariant.sent c.in_ok-one.ensures.ok (omega arith) in
    omega (arith, fit)

pub strokes-preserved : goal.strokes-preserved
strokes-preserved g c =
    let page : HeadPage = g.S.Strokes.page c.args.page.now in
    record {
      sent = let P : Sent → Type 0 = SendsStrokes page 0 0 (c.strokes.stroke + 1)
          (outlet_of (g.K.Sink.held c.args.sink.now) c.args.waiting.now.items)
          (outlet_of (g.K.Sink.held c.put_coded.new.sink) c.put_coded.new.waiting.items) in
          subst P (sym c.and_then-sent.ensures) (sends_join (omega arith) (omega arith) c.strokes.invariant.sent c.in_ok-one.ensures.ok);
      room = c.in_ok-one.ensures.room;
      row = omega (arith, c.strokes.invariant.row, c.code_stroke.ensures.long);
      capacity = omega (arith, c.strokes.invariant.capacity, c.in_ok-one.ensures.capacity);
      later = omega (arith, c.strokes.invariant.later, c.in_ok-one.ensures.cause.later);
    }
