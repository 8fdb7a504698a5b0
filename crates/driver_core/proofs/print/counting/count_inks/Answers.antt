use Rattle.std.proofs.Common.{◌≡◌, ℕ, ◌∙◌, arith, ap}
use Rattle.dot_planes.specs.Tables.{DotTable, dot}
use Rattle.driver_core.specs.Printing.Counting.{CountsInk, plane_dots}
use Rattle.ink_meter.proofs.PlaneDots.{colour-most, colour_dots, four-most, four_dots}
use Rattle.driver_core.proofs.print.counting.count_inks.Goals as goal

-- the dots that are counted are those of the ink at this place
counted : {own t : DotTable} {place at dots : ℕ} → CountsInk own place dots → own ≡ t → place ≡ at → dots ≡ plane_dots t at
counted {own} {t} {place} {at} counts same there = counts.is ∙ ap (λ it. plane_dots it place) same ∙ ap (plane_dots t) there

pub returns-in-Cmy-clause-dots : goal.returns-in-Cmy-clause-dots
returns-in-Cmy-clause-dots g c = λ p h is has.
    let each = c.run_beside.ensures.shares.each in
    colour_dots p h _ _ _ (dot c.args.planes.now) _ _ _ has (is ∙ c.in-Cmy.is)
    (counted (each 0 c.index-counts-0.result (omega arith)) c.of.ensures.planes c.of.ensures.place)
    (counted (each 1 c.index-counts-1.result (omega arith)) c.of-in-Cmy.ensures.planes c.of-in-Cmy.ensures.place)
    (counted (each 2 c.index-counts-2.result (omega arith)) c.of-in-Cmy-2.ensures.planes c.of-in-Cmy-2.ensures.place)

pub returns-in-Cmy-clause-most : goal.returns-in-Cmy-clause-most
returns-in-Cmy-clause-most g c =
    let t : DotTable = c.args.planes.now in
    let each = c.run_beside.ensures.shares.each in
    colour-most (dot t) t.width t.rows c.requires.width (omega (arith, c.rows-rows.ensures))
    (counted (each 0 c.index-counts-0.result (omega arith)) c.of.ensures.planes c.of.ensures.place)
    (counted (each 1 c.index-counts-1.result (omega arith)) c.of-in-Cmy.ensures.planes c.of-in-Cmy.ensures.place)
    (counted (each 2 c.index-counts-2.result (omega arith)) c.of-in-Cmy-2.ensures.planes c.of-in-Cmy-2.ensures.place)

pub returns-in-Cmyk-clause-dots : goal.returns-in-Cmyk-clause-dots
returns-in-Cmyk-clause-dots g c = λ p h is has.
    let each = c.run_beside-in-Cmyk.ensures.shares.each in
    four_dots p h _ _ _ (dot c.args.planes.now) _ _ _ _ has (is ∙ c.in-Cmyk.is)
    (counted (each 0 c.index-counts-0-in-Cmyk.result (omega arith)) c.of-in-Cmyk.ensures.planes c.of-in-Cmyk.ensures.place)
    (counted (each 1 c.index-counts-1-in-Cmyk.result (omega arith)) c.of-in-Cmyk-2.ensures.planes c.of-in-Cmyk-2.ensures.place)
    (counted (each 2 c.index-counts-2-in-Cmyk.result (omega arith)) c.of-in-Cmyk-3.ensures.planes c.of-in-Cmyk-3.ensures.place)
    (counted (each 3 c.index-counts-3.result (omega arith)) c.of-in-Cmyk-4.ensures.planes c.of-in-Cmyk-4.ensures.place)

pub returns-in-Cmyk-clause-most : goal.returns-in-Cmyk-clause-most
returns-in-Cmyk-clause-most g c =
    let t : DotTable = c.args.planes.now in
    let each = c.run_beside-in-Cmyk.ensures.shares.each in
    four-most (dot t) t.width t.rows c.requires.width (omega (arith, c.rows-rows.ensures))
    (counted (each 0 c.index-counts-0-in-Cmyk.result (omega arith)) c.of-in-Cmyk.ensures.planes c.of-in-Cmyk.ensures.place)
    (counted (each 1 c.index-counts-1-in-Cmyk.result (omega arith)) c.of-in-Cmyk-2.ensures.planes c.of-in-Cmyk-2.ensures.place)
    (counted (each 2 c.index-counts-2-in-Cmyk.result (omega arith)) c.of-in-Cmyk-3.ensures.planes c.of-in-Cmyk-3.ensures.place)
    (counted (each 3 c.index-counts-3.result (omega arith)) c.of-in-Cmyk-4.ensures.planes c.of-in-Cmyk-4.ensures.place)
