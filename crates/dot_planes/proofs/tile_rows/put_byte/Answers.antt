use Rattle.std.proofs.Common.{◌∙◌, arith, inl, inr}
use Rattle.dot_planes.proofs.TileBytes.{IsByte, IsMoved, not_taken, taken_dot, taken_from, taken_to}
use Rattle.dot_planes.proofs.tile_rows.put_byte.Goals as goal
use Rattle.dot_planes.proofs.tile_rows.put_byte.Goals.{then-n-gt0, else-n-gt0, then-n-lt8, else-n-lt8, then-n-gt0-2}
use Rattle.dot_planes.proofs.tile_rows.put_byte.Goals.{else-n-gt0-2, then-n-lt8-2, else-n-lt8-2}

is_byte : (c : goal.After-splice)
    → IsByte c.args.dots.now c.args.n c.args.shift c.if-n-gt0.left c.if-n-lt8.right c.if-n-gt0-2.from c.if-n-lt8-2.to
is_byte c = grind (arith, else-n-gt0, else-n-gt0-2, else-n-lt8, else-n-lt8-2, then-n-gt0, then-n-gt0-2, then-n-lt8, then-n-lt8-2)

is_moved : (c : goal.After-splice) → IsMoved c.if-n-gt0.left c.if-n-lt8.right c.args.shift c.eight_from.result
is_moved c = record { at_left = c.eight_from.ensures.left; at_right = c.eight_from.ensures.right }

pub returns-clause-pixels : goal.returns-clause-pixels
returns-clause-pixels c = λ k offset low before inside here.
    c.splice.ensures.inside k (taken_from k offset (is_byte c) here)
    (omega (arith, c.min.ensures, taken_to k offset (is_byte c) low inside here))
    ∙ taken_dot k offset (is_byte c) (is_moved c) low inside here

pub returns-clause-others : goal.returns-clause-others
returns-clause-others c = λ k low none.
    c.splice.ensures.outside k low (elim (not_taken c.args.most k (is_byte c) low none) [
      | inl before ↦ inl before
      | inr past ↦ inr (omega (arith, c.min.ensures))
    ])
