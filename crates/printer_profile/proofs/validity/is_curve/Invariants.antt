use Rattle.std.proofs.Common.{ℕ, suc, ◌<◌, ◌≤◌, get_or}
use Rattle.printer_profile.proofs.validity.is_curve.Given as goal

abbrev pub invariant-points : goal.invariant-points
invariant-points l = (i : ℕ) → suc i < l.place → get_or l.curve i 0 ≤ get_or l.curve (suc i) 0
