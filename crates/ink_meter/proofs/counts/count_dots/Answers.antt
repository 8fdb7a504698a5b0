use Rattle.std.proofs.Common.{◌∙◌, arith}
use Rattle.dot_planes.specs.Tables.{dot}
use Rattle.ink_meter.proofs.PlaneDots.{black_dots, colour-most, colour_dots, four-most, four_dots}
use Rattle.ink_meter.proofs.counts.count_dots.Goals as goal

pub returns-in-K-clause-dots : goal.returns-in-K-clause-dots
returns-in-K-clause-dots c p h is has = black_dots p h _ _ _ (dot c.args.planes.now) _ has (is ∙ c.in-K.is) c.count.ensures

pub returns-in-Cmy-clause-dots : goal.returns-in-Cmy-clause-dots
returns-in-Cmy-clause-dots c p h is has =
    colour_dots p h _ _ _ (dot c.args.planes.now) _ _ _ has (is
    ∙ c.in-Cmy.is) c.count-in-Cmy.ensures c.count-in-Cmy-2.ensures c.count-in-Cmy-3.ensures

pub returns-in-Cmy-clause-most : goal.returns-in-Cmy-clause-most
returns-in-Cmy-clause-most c =
    let t = c.args.planes.now in
    colour-most (dot t) t.width t.rows c.requires.width (omega (arith, c.rows-rows.ensures))
    c.count-in-Cmy.ensures c.count-in-Cmy-2.ensures c.count-in-Cmy-3.ensures

pub returns-in-Cmyk-clause-dots : goal.returns-in-Cmyk-clause-dots
returns-in-Cmyk-clause-dots c p h is has =
    four_dots p h _ _ _ (dot c.args.planes.now) _ _ _ _ has (is ∙ c.in-Cmyk.is)
    c.count-in-Cmyk.ensures c.count-in-Cmyk-2.ensures c.count-in-Cmyk-3.ensures c.count-in-Cmyk-4.ensures

pub returns-in-Cmyk-clause-most : goal.returns-in-Cmyk-clause-most
returns-in-Cmyk-clause-most c =
    let t = c.args.planes.now in
    four-most (dot t) t.width t.rows c.requires.width (omega (arith, c.rows-rows.ensures))
    c.count-in-Cmyk.ensures c.count-in-Cmyk-2.ensures c.count-in-Cmyk-3.ensures c.count-in-Cmyk-4.ensures
