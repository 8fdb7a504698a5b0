use Rattle.std.proofs.Common.{arith}
use Rattle.std.proofs.lemmas.List.{take-take}
use Rattle.std.proofs.Common.{◌≡◌, ◌+◌, ◌++◌, take, ◌∙◌, ap, List, ℕ, replicate, slice_index, append_assoc}
use Rattle.escp2_rows.proofs.WholePackets.{put_front, short_put}
use Rattle.escp2_rows.proofs.whole_packets.put_short.Goals as goal

pub returns : goal.returns
returns c =
    let kept : ℕ = c.args.shape.kept in
    let copies : List ℕ = replicate 16 (slice_index c.args.bytes.now kept) in
    let front : take (c.args.filled + kept) c.put_block.new.out ≡ take c.args.filled c.args.out.now ++ take kept c.args.bytes.now =
    put_front c.args.filled 16 kept c.args.out.now c.put_block.new.out _ (omega arith) c.put_block.ensures (omega arith)
    ∙ ap (λ bs. take c.args.filled c.args.out.now ++ bs) (take-take kept 16 c.args.bytes.now (omega arith)) in
    short_put c.args.filled kept c.args.shape.count _ c.args.out.now c.put_block-2.new.out c.args.bytes.now (omega arith) (omega arith)
    (omega arith) c.requires.few
    (c.put_block-2.ensures
    ∙ ap (λ bs. bs ++ copies) front
    ∙ append_assoc (take c.args.filled c.args.out.now) (take kept c.args.bytes.now) copies)
