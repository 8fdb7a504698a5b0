use Rattle.std.proofs.Common.{◌≡◌, ◌+◌, ◌/◌, ◌||◌, ◌&&◌, ◌∙◌, ap, arith}
use Rattle.dot_planes.specs.Laying.{is_in_bytes, laid_dot}
use Rattle.dot_planes.specs.Tables.{row_dot}
use Rattle.dot_planes.proofs.LaidBytes.{laid-step, laid-whole, none-laid, or-nothing}
use Rattle.dot_planes.proofs.bit_rows.lay_whole.Goals as goal

pub loop-i-preserved : goal.loop-i-preserved
loop-i-preserved c = record {
  so_far = λ d.
      let next : c.args.x / 8 + 1 + c.loop-i.i + 1 ≡ c.args.x / 8 + 1 + (c.loop-i.i + 1) = omega arith in
      laid-step c.args.over.now c.loop-i.over (laid_dot c.args.row.now c.args.dots c.args.x)
      (c.args.x / 8 + 1) (c.args.x / 8 + 1 + c.loop-i.i) c.row_eight.result d
      (omega arith) (omega arith) (λ j low. c.row_eight.ensures j low ∙ laid-whole
      c.args.row.now c.args.dots c.args.x c.loop-i.i j (omega arith) low) (c.loop-i.invariant.so_far d)
      ∙ ap (λ n. row_dot c.args.over.now d || is_in_bytes (c.args.x / 8 + 1) n d && laid_dot c.args.row.now c.args.dots c.args.x d) next;
}

pub loop-i-init : goal.loop-i-init
loop-i-init c = grind (arith, none-laid, or-nothing)
