use Rattle.std.proofs.Common.{arith}
use Rattle.printer_profile.proofs.CheckedProfiles.{can_print}
use Rattle.printer_profile.proofs.laws.checked_can_print.Goals as goal

pub returns : goal.returns
returns c = can_print c.args.p (omega arith)
