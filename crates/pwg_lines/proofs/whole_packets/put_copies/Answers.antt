use Rattle.std.proofs.Common.{◌≡◌, ℕ, ◌++◌, take, ◌∙◌, ap, arith}
use Rattle.std.proofs.lemmas.List.{take-take}
use Rattle.pwg_definitions.specs.Groups.{copies}
use Rattle.pwg_definitions.specs.Header.{row_of}
use Rattle.pwg_lines.specs.States.{block_units}
use Rattle.pwg_lines.proofs.WholePackets.{block_within, put_front, unit_within}
use Rattle.pwg_lines.proofs.whole_packets.put_copies.Goals as goal

pub returns : goal.returns
returns c =
    let unit : ℕ = (row_of c.args.kind).unit in
    let one : take unit (take 16 c.args.bytes.now) ≡ take unit c.args.bytes.now =
    take-take unit 16 c.args.bytes.now (unit_within c.args.kind) in
    put_front c.args.filled _ _ c.args.line.now c.put_block.new.line c.block_of.result (omega arith) c.put_block.ensures
    (omega (arith, block_within c.args.kind))
    ∙ ap (λ bs. take c.args.filled c.args.line.now ++ bs) (c.block_of.ensures.copies ∙ ap (copies (block_units c.args.kind)) one)
