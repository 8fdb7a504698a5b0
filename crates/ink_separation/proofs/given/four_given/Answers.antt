use Rattle.std.proofs.Common.{ap, arith, sym, ◌∙◌}
use Rattle.separation_definitions.specs.Amounts.{cmyk_ink, colour_left, darkness, grey_ink}
use Rattle.ink_separation.specs.Given.{four_at}
use Rattle.ink_separation.proofs.FourInks.{darkness_is, more_are}
use Rattle.ink_separation.proofs.given.four_given.Goals as goal

pub returns-in-Cmyk : goal.returns-in-Cmyk
returns-in-Cmyk c = grind arith

pub returns-in-Cmy : goal.returns-in-Cmy
returns-in-Cmy c = λ ink x inside.
    more_are c.args.pixels.now c.own_given-own.result c.blackened.result c.args.many c.requires.many
    c.own_given-own.ensures c.blackened.ensures ink x inside
    ∙ ap (λ set. cmyk_ink set (four_at c.args.pixels.now x) ink) (sym c.in-Cmy.is)

pub returns-in-K : goal.returns-in-K
returns-in-K c = λ ink x inside.
    let sums = more_are c.args.pixels.now c.own_given-own.result c.blackened-sums.result c.args.many c.requires.many
    c.own_given-own.ensures c.blackened-sums.ensures in
    c.grey_given.ensures ink x (omega arith)
    ∙ ap (grey_ink c.args.inks ink) (darkness_is c.args.pixels.now c.darkness_left.result c.blackened-sums.result c.args.many
    c.requires.many sums c.darkness_left.ensures x inside)
    ∙ ap (λ set. grey_ink set ink (darkness (colour_left (four_at c.args.pixels.now x)))) c.in-K.is
    ∙ ap (λ set. cmyk_ink set (four_at c.args.pixels.now x) ink) (sym c.in-K.is)
