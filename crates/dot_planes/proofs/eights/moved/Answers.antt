use Rattle.std.proofs.Common.{◌*◌, ◌/◌, ◌%◌, ◌^◌, ◌∙◌, ap, bit_and}
use Rattle.base_definitions.specs.Packed.{bit_at}
use Rattle.dot_planes.proofs.MovedBits.{moved-left, moved-stays}
use Rattle.dot_planes.proofs.eights.moved.Goals as goal

pub returns-clause-left : goal.returns-clause-left
returns-clause-left c = λ j low.
    ap (λ b. bit_at (b * 2 ^ c.args.by % 65536 / 256) j) c.from.ensures
    ∙ moved-left c.args.by j c.args.byte c.requires low c.ranges.byte.fits

pub returns-clause-stay : goal.returns-clause-stay
returns-clause-stay c = λ j low.
    ap (λ b. bit_at (bit_and (b * 2 ^ c.args.by % 65536) 255) j) c.from.ensures
    ∙ moved-stays c.args.by j c.args.byte c.requires low c.ranges.byte.fits
