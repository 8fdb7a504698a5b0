use Rattle.std.proofs.Common.{◌≡◌, ◌+◌, ◌-◌, ◌/◌, ◌%◌, ◌∙◌, sym, ap, get_or}
use Rattle.std.proofs.lemmas.List.{get_or_past}
use Rattle.base_definitions.specs.Packed.{bit_at}
use Rattle.dot_planes.proofs.LaidBytes.{window-is}
use Rattle.dot_planes.proofs.bit_rows.window.Goals as goal
use Rattle.dot_planes.proofs.bit_rows.window.Goals.{then-place-bytes, else-place-bytes}

-- the next byte, or 0
next_is : (c : goal.After-eight_from) → c.if-place-bytes.next ≡ get_or c.args.bytes.now (c.args.x / 8 + 1) 0
next_is c = elim c.if-place-bytes.branch [
  | then-place-bytes w ↦ w.next-is
  | else-place-bytes w ↦ w.next-is ∙ sym (get_or_past c.args.bytes.now (c.args.x / 8 + 1) 0 w.if-place-bytes.false)
]

pub returns : goal.returns
returns c = λ j low. window-is c.args.bytes.now c.args.x j c.eight_from.result low (c.eight_from.ensures.left j)
    (λ next. c.eight_from.ensures.right j low next ∙ ap (λ b. bit_at b (j + c.args.x % 8 - 8)) (next_is c))
