use Rattle.std.proofs.Common.{ℕ, ◌∙◌, ap, arith}
use Rattle.ink_separation.specs.Separated.{tile_amount}
use Rattle.ink_separation.specs.Separators.{amount_in}
use Rattle.ink_separation.proofs.TileInks.{few, inks_more}
use Rattle.ink_separation.proofs.separator.Separator.scale.Goals as goal

pub loop-i-preserved : goal.loop-i-preserved
unfolding amount_in
loop-i-preserved c =
    let s = c.args.self.now in
    let i : ℕ = c.loop-i.i in
    inks_more s.inks (λ j ink n. amount_in s ink (tile_amount c.args.out.now.inks j n)) i c.from.result c.at-ink.result _
    c.args.out.now.inks c.loop-i.out.inks c.from.ensures (omega (arith, few s.inks)) c.at-ink.ensures
    (λ k low. c.scale.ensures k low
    ∙ ap (λ n. amount_in s c.at-ink.result (tile_amount c.loop-i.out.inks n k)) c.from.ensures
    ∙ ap (amount_in s c.at-ink.result) (c.loop-i.invariant.rest i k (omega arith)))
    c.loop-i.invariant
