use Rattle.std.proofs.Common.{◌∙◌, arith}
use Rattle.job_lister.proofs.RasterDots.{stretch-count}
use Rattle.job_lister.proofs.dots.raster_dots.Goals as goal

pub returns-then-header-eq0 : goal.returns-then-header-eq0
returns-then-header-eq0 c =
    c.count_dots.ensures.is
    ∙ stretch-count c.args.header.now c.args.rows.now c.from.result c.from-then-header-eq0.result
    (λ k. omega (arith, c.type_inv.rows k)) (omega (arith, c.if-header-eq0.true)) c.from.ensures c.from-then-header-eq0.ensures
    c.requires.rows_fit
