use Rattle.ink_separation.specs.Separators.{amount_in}
use Rattle.ink_separation.proofs.separator.Separator.amounts_of.Goals as goal

pub returns : goal.returns
unfolding amount_in
returns c = c.amounts.ensures
