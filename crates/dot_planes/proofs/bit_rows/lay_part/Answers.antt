use Rattle.std.proofs.Common.{◌≡◌, ℕ, Bool, ◌+◌, ◌/◌, ◌||◌, ◌&&◌, ◌∙◌, List, ap, arith}
use Rattle.dot_planes.specs.Laying.{is_in_bytes, laid_dot}
use Rattle.dot_planes.specs.Tables.{row_dot}
use Rattle.dot_planes.proofs.LaidBytes.{laid-from, laid-step, none-behind, none-laid, none-more, or-nothing}
use Rattle.dot_planes.proofs.bit_rows.lay_part.Goals as goal
use Rattle.dot_planes.proofs.bit_rows.lay_part.Goals.{then-place-i, else-place-i}

pub loop-i-init : goal.loop-i-init
loop-i-init c = grind (arith, none-laid, or-nothing)

pub loop-i-preserved : goal.loop-i-preserved
loop-i-preserved c = record {
  so_far = λ d.
      let laid : ℕ → Bool = laid_dot c.args.row.now c.args.dots c.args.x in
      let next : c.args.x / 8 + c.loop-i.i + 1 ≡ c.args.x / 8 + (c.loop-i.i + 1) = omega arith in
      elim c.if-place-i.branch [
        | then-place-i w ↦
            ap (λ (bytes : List ℕ). row_dot bytes d) w.over-is
            ∙ laid-step c.args.over.now c.loop-i.over laid (c.args.x / 8 + c.args.from) (c.args.x / 8 + c.loop-i.i) w.laid_byte.result d
            (omega (arith, c.loop-i.auto.i)) w.if-place-i.true (λ j low. w.laid_byte.ensures j low
            ∙ laid-from c.args.row.now c.args.dots c.args.x c.loop-i.i j) (c.loop-i.invariant.so_far d)
            ∙ ap (λ n. row_dot c.args.over.now d || is_in_bytes (c.args.x / 8 + c.args.from) n d && laid d) next
        | else-place-i w ↦
            ap (λ (bytes : List ℕ). row_dot bytes d) w.over-is
            ∙ c.loop-i.invariant.so_far d
            ∙ ap (λ b. row_dot c.args.over.now d || b) (none-more laid (c.args.x / 8 + c.args.from) (c.args.x / 8 + c.loop-i.i) d
            (λ behind. none-behind c.args.row.now c.args.dots c.args.x d
            (omega (arith, behind, w.if-place-i.false, c.loop-i.auto.over, c.requires.inside))))
            ∙ ap (λ n. row_dot c.args.over.now d || is_in_bytes (c.args.x / 8 + c.args.from) n d && laid d) next
      ];
}

pub returns-clause-dots : goal.returns-clause-dots
returns-clause-dots c = λ d.
    let end : c.args.x / 8 + c.loop-i.i ≡ c.args.x / 8 + c.args.to =
    omega (arith, c.loop-i-test.false, c.loop-i.auto.i-end, c.requires.order) in
    c.loop-i.invariant.so_far d
    ∙ ap (λ n. row_dot c.args.over.now d
    || is_in_bytes (c.args.x / 8 + c.args.from) n d && laid_dot c.args.row.now c.args.dots c.args.x d) end
