use Rattle.std.proofs.Common.{◌∙◌, ap, arith, sym}
use Rattle.ink_separation.specs.Separators.{amount_in, printer_in}
use Rattle.ink_separation.proofs.TileInks.{free_more, within}
use Rattle.ink_separation.proofs.White.{white_pixel_gives}
use Rattle.ink_separation.proofs.separator.Separator.white_is_free.Goals as goal

pub loop-i-preserved : goal.loop-i-preserved
unfolding amount_in
loop-i-preserved c =
    let s = c.args.self.now in
    free_more s.inks (λ ink. amount_in s ink 0) c.loop-i.i c.at.result c.at.ensures
    (sym c.amount.ensures ∙ (omega (arith, c.if-amount-ne0.false))) c.loop-i.invariant

pub returns : goal.returns
unfolding amount_in
returns c = λ all i ink is.
    let s = c.args.self.now in
    ap (amount_in s ink) (white_pixel_gives (printer_in s) s.kind ink)
    ∙ c.loop-i.invariant i ink (omega (arith, within s.inks i ink is)) is
