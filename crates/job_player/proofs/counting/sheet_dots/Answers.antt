use Rattle.std.proofs.Common.{arith, refl}
use Rattle.job_player.proofs.SheetDots.{are_planes, counts_are, counts_few, four_inks, halftone_of, has_halftone}
use Rattle.job_player.proofs.counting.sheet_dots.Goals as goal

pub returns-clause-are : goal.returns-clause-are
returns-clause-are c =
    let t = c.args.sheet.now.planes in
    let planes = are_planes c.count_dots.result t c.args.sheet.now.inks
    (c.count_dots.ensures.dots four_inks (halftone_of t) refl (has_halftone t c.args.sheet.now.inks)) in
    λ p s dots some some' is exactly distinct. counts_are p s c.args.sheet.now dots _ some some' is exactly distinct planes

pub returns-clause-few : goal.returns-clause-few
returns-clause-few c =
    let t = c.args.sheet.now.planes in
    let planes = are_planes c.count_dots.result t c.args.sheet.now.inks
    (c.count_dots.ensures.dots four_inks (halftone_of t) refl (has_halftone t c.args.sheet.now.inks)) in
    counts_few c.count_dots.result t (omega (arith, c.args.sheet.now.width))
    (omega (arith, c.args.sheet.now.height)) planes
