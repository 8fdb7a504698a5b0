use Rattle.std.proofs.Common.{◌≡◌, ℕ, ◌+◌, ◌-◌, ◌*◌, ◌∙◌, ap, arith, drop, take}
use Rattle.escp2_definitions.specs.Commands.{row_bytes}
use Rattle.base_definitions.specs.Packed.{bits}
use Rattle.job_lister.proofs.RowBits.{on_count}
use Rattle.job_lister.proofs.RasterDots.{count_begin, count_end, count_step}
use Rattle.job_lister.proofs.dots.dots_by_row.Goals as goal

pub loop-i-init : goal.loop-i-init
loop-i-init c = count_begin c.args.header.now c.args.rows.now

pub loop-i-preserved : goal.loop-i-preserved
loop-i-preserved c =
    let width : ℕ = row_bytes c.args.header.now in
    let start : ℕ = c.loop-i.i * width in
    let wide : start + width - start ≡ width = omega arith in
    let is = rw (c.from-columns.ensures, c.from.ensures) at c.row_dots-sum.ensures.is in
    let row = is ∙ ap (λ n. on_count (take c.args.header.now.n (bits (take n (drop start c.args.rows.now))))) wide in
    count_step c.args.header.now c.args.rows.now c.loop-i.i c.loop-i.sum c.row_dots-sum.result c.loop-i.invariant (omega arith) row
    (omega (arith, c.row_dots-sum.ensures.most))

pub returns : goal.returns
returns c = count_end c.args.header.now c.args.rows.now c.loop-i.i c.loop-i.sum c.loop-i.invariant (omega arith)
