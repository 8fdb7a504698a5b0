use Rattle.std.proofs.Common.{◌∙◌, ◌++◌, ap, arith, take}
use Rattle.std.proofs.lemmas.List.{take-take}
use Rattle.pwg_lines.proofs.WholePackets.{put_front}
use Rattle.pwg_lines.proofs.whole_packets.put_bytes.Goals as goal

pub returns-then-count-le-BLOCK : goal.returns-then-count-le-BLOCK
returns-then-count-le-BLOCK c =
    put_front c.args.filled 64 c.args.count c.args.line.now c.put_block.new.line _ (omega arith) c.put_block.ensures
    c.if-count-le-BLOCK.true
    ∙ ap (λ bs. take c.args.filled c.args.line.now ++ bs) (take-take c.args.count 64 c.args.bytes.now c.if-count-le-BLOCK.true)
