use Rattle.std.proofs.Common.{◌≡◌, ℕ, ◌*◌, ◌/◌, ◌<◌, [], get_or, length, slice_index_or}
use Rattle.printer_definitions.specs.Printer.{tone_on}
use Rattle.ink_separation.proofs.scales.table_of.Given as goal

abbrev pub invariant-loop-a : goal.invariant-loop-a
invariant-loop-a l = record {
  len : length l.amounts ≡ 256;
  filled : (k : ℕ) → k < l.a → get_or l.amounts k 0 ≡ tone_on (slice_index_or l.p.curves l.ink []) k * l.limit / 255;
}
