use Rattle.std.proofs.Common.{get_or}
use Rattle.separation_definitions.specs.Amounts.{grey_ink}
use Rattle.ink_separation.specs.Columns.{grey_in}
use Rattle.ink_separation.specs.Separators.{amount_in}
use Rattle.ink_separation.proofs.TileInks.{HasInks}
use Rattle.ink_separation.proofs.separator.Separator.separate_greys.Given as goal

abbrev pub invariant-loop-i : goal.invariant-loop-i
invariant-loop-i l =
    HasInks l.self.inks (λ i ink n. amount_in l.self ink (grey_ink l.self.inks ink (grey_in l.light (get_or l.columns n 0)))) l.i
    l.initial.out.inks l.out.inks
