use Rattle.std.proofs.Common.{ℕ, ◌%◌, ◌*◌, ◌+◌, ◌-◌, ◌/◌, ◌<◌, ◌^◌, ◌≡◌, ◌≢◌, slice_index}
use Rattle.tile_lanes.specs.Rows.{bit}
use Rattle.tile_lanes.proofs.lanes.packing.put_level_words.Given as goal

abbrev pub invariant-loop-r : goal.invariant-loop-r
invariant-loop-r l = record {
  there : (q o : ℕ) → q < l.r → o < 64 → 16 * (o / 16) + 23 ≡ l.step
      → bit l.bits (64 * q + o) ≡ slice_index l.dots q / 2 ^ (15 - o % 16) % 2;
  kept : (q o : ℕ) → q < 32 → o < 64 → 16 * (o / 16) + 23 ≢ l.step
      → bit l.bits (64 * q + o) ≡ bit l.initial.bits (64 * q + o);
}
