use Rattle.std.proofs.Common.{◌≡◌, ◌≤◌, length, map, sym, ◌∙◌, ap, arith}
use Rattle.std.specs.Int.Bits.{bit_and}
use Rattle.page_writer.proofs.EveryOther.{mask, masked_all, masked_more, other-packed}
use Rattle.page_writer.proofs.halves.put_every_other.Goals as goal
use Rattle.page_writer.proofs.halves.put_every_other.Goals.{then-even, else-even}

pub loop-byte-preserved : goal.loop-byte-preserved
loop-byte-preserved c =
    masked_more c.if-even.mask c.loop-byte.byte-index c.args.row.now c.loop-byte.room
    (omega (arith, c.loop-byte-test.true, ap length c.copy_from_slice.ensures.after)) c.loop-byte.invariant

pub returns : goal.returns
returns c = λ dots is.
    let whole : length c.args.row.now ≤ c.loop-byte.byte-index =
    omega (arith, c.loop-byte-test.false, ap length c.copy_from_slice.ensures.after) in
    let same : c.if-even.mask ≡ mask c.args.even = elim c.if-even.branch [
      | then-even w ↦ w.mask-is ∙ ap mask (sym w.if-even.true)
      | else-even w ↦ w.mask-is ∙ ap mask (sym w.if-even.false)
    ] in
    c.loop-byte.invariant ∙ masked_all c.if-even.mask c.loop-byte.byte-index c.args.row.now whole
    ∙ ap (λ m. map (λ b. bit_and b m) c.args.row.now) same ∙ ap (map (λ b. bit_and b (mask c.args.even))) is
    ∙ sym (other-packed c.args.even dots)
