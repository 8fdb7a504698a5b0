use Rattle.std.proofs.Common.{◌≡◌, ℕ, ◌||◌, drop, false, length, slice_index_or}
use Rattle.dead_nozzles.specs.Dead.{has}
use Rattle.dead_nozzles.proofs.worn.table_of.Given as goal

-- a number is in the table or among those that are left
abbrev pub invariant-dead : goal.invariant-dead
invariant-dead l = record {
  whole : length l.table ≡ 256;
  each : (nozzle : ℕ) → has l.dead nozzle ≡ (slice_index_or l.table nozzle false || has (drop l.nozzle-index l.dead) nozzle);
}
