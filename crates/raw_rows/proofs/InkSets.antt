-- The inks of a set.
use Rattle.std.proofs.Common.{◌≤◌, arith, length}
use Rattle.printer_definitions.specs.Inks.{inks_of}
use Rattle.printer_definitions.specs.declared.inks.InkSet.{InkSet}
use Rattle.printer_definitions.specs.declared.inks.InkSet.TheVariants.{K, Cmy, Cmyk}

-- there are four at most
pub few_inks : (set : InkSet) → length (inks_of set) ≤ 4
few_inks K = omega arith
few_inks Cmy = omega arith
few_inks Cmyk = omega arith
