use Rattle.std.proofs.Common.{◌≡◌, ◌∙◌, ◌-◌, length, take, drop, List, ℕ, subst}
use Rattle.weave_base.proofs.Parting.{on_err_anyway}
use Rattle.page_writer.specs.Outlets.{GathersPart, outlet_of}
use Rattle.page_writer.specs.Pieces.{sent_bytes}
use Rattle.page_writer.proofs.Pieces.{coded-bytes, sends_coded}
use Rattle.page_writer.proofs.sending.put_coded.Goals as goal

pub returns-in_err-send-clause-part : goal.returns-in_err-send-clause-part
returns-in_err-send-clause-part g c =
    let code : List ℕ = c.put_step-begin.new.code in
    let whole : take (length code - c.put_step-begin.result) (drop c.put_step-begin.result code)
    ≡ sent_bytes (g.S.Strokes.page c.args.page.now) c.args.last c.args.stroke 1 =
    coded-bytes c.args.last c.start-row.result c.put_step-begin.result _ code c.requires.coded c.if-coded-eq0.false
    c.start-row.ensures c.as_mut_slice-code.ensures.value c.put_step-begin.ensures.step in
    let P : List ℕ → Type 0 =
    GathersPart (outlet_of (g.K.Sink.held c.args.sink.now) c.args.waiting.now.items) (g.K.Sink.held c.send.new.sink) in
    on_err_anyway _ (subst P whole c.in_err-send.ensures.part)

pub returns-clause-ok : goal.returns-clause-ok
returns-clause-ok g c =
    let code : List ℕ = c.put_step-begin.new.code in
    let whole : take (length code - c.put_step-begin.result) (drop c.put_step-begin.result code)
    ≡ sent_bytes (g.S.Strokes.page c.args.page.now) c.args.last c.args.stroke 1 =
    coded-bytes c.args.last c.start-row.result c.put_step-begin.result _ code c.requires.coded c.if-coded-eq0.false
    c.start-row.ensures c.as_mut_slice-code.ensures.value c.put_step-begin.ensures.step in
    sends_coded c.args.last c.start-row.result c.put_step-begin.result code c.requires.coded c.if-coded-eq0.false
    c.start-row.ensures (c.put_step-begin.ensures.long ∙ c.as_mut_slice-code.ensures.len) whole c.in_ok-send.ensures.ok
