use Rattle.std.proofs.Common.{◌∙◌, ap, get_or}
use Rattle.separation_definitions.specs.Amounts.{moved_to_black}
use Rattle.ink_separation.proofs.Inks.{black_is_moved}
use Rattle.ink_separation.proofs.given.colour_given.Goals as goal

pub returns-in-Cmyk : goal.returns-in-Cmyk
returns-in-Cmyk c = λ least is.
    black_is_moved c.args.inks least c.args.many c.args.pixels.now
    c.least_of-common.result c.complements_given-wanted.result _ c.in-Cmyk.is c.requires.many
    c.complements_given-wanted.ensures c.least_of-common.ensures
    (λ x low. c.black_of-black.ensures x low ∙ ap (λ n. moved_to_black n (get_or c.least_of-common.result x 0)) is)
    c.less.ensures c.less-in-Cmyk.ensures c.less-in-Cmyk-2.ensures
