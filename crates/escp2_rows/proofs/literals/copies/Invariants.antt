use Rattle.std.proofs.Common.{◌≡◌, ℕ, ◌-◌, ◌<◌, ◌≤◌, get_or, length}
use Rattle.escp2_rows.proofs.literals.copies.Given as goal

abbrev pub invariant-sixteens : goal.invariant-sixteens
invariant-sixteens l = record {
  within : l.count ≤ length l.row;
  copies : (i : ℕ) → i < l.count → get_or l.row i 0 ≡ l.byte;
}

abbrev pub decreases-sixteens : goal.decreases-sixteens
decreases-sixteens l = length l.row - l.count
