use Rattle.std.proofs.Common.{ℕ}
use Rattle.std.proofs.lemmas.List.{get_or-replicate}
use Rattle.ink_separation.proofs.Inks.{grey_beside_black}
use Rattle.ink_separation.proofs.given.grey_given.Goals as goal

pub returns-in-Cmyk : goal.returns-in-Cmyk
returns-in-Cmyk c = grey_beside_black c.args.inks c.args.dark _ c.in-Cmyk.is (λ x low. get_or-replicate {A = ℕ} 64 x 0 0 low)
