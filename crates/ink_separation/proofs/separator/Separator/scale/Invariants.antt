use Rattle.ink_separation.specs.Separated.{tile_amount}
use Rattle.ink_separation.specs.Separators.{amount_in}
use Rattle.ink_separation.proofs.TileInks.{HasInks}
use Rattle.ink_separation.proofs.separator.Separator.scale.Given as goal

abbrev pub invariant-loop-i : goal.invariant-loop-i
invariant-loop-i l =
    HasInks l.self.inks (λ i ink n. amount_in l.self ink (tile_amount l.initial.out.inks i n)) l.i l.initial.out.inks l.out.inks
