use Rattle.printer_profile.proofs.Divisors.{gcd_is}
use Rattle.printer_profile.proofs.validity.gcd.Goals as goal

pub returns : goal.returns
returns c = gcd_is _ _ _ c.requires c.greatest_common_divisor.ensures
