use Rattle.std.proofs.Common.{◌≡◌, ℕ, ◌<◌, length}
use Rattle.dead_nozzles.specs.Plans.{IsPassOwner, owner}
use Rattle.dead_nozzles.proofs.owners.pass_owners.Given as goal

abbrev pub invariant-rows : goal.invariant-rows
invariant-rows l = record {
  rows : length l.owners.items ≡ l.row;
  each : (row : ℕ) → row < l.row → IsPassOwner l.head row (owner l.owners.items row);
}
