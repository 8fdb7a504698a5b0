use Rattle.std.proofs.Common.{◌*◌, ◌/◌, [], arith, ap, ◌∙◌, length-set, slice_index_or}
use Rattle.printer_definitions.specs.Printer.{tone_on}
use Rattle.ink_separation.proofs.Filled.{filled_more}
use Rattle.ink_separation.proofs.scales.table_of.Goals as goal

pub loop-a-preserved : goal.loop-a-preserved
loop-a-preserved c = record {
  len = length-set c.loop-a.amounts _ _ ∙ c.loop-a.invariant.len;
  filled = filled_more c.loop-a.amounts c.loop-a.a _
      (λ k. tone_on (slice_index_or c.args.p.now.curves c.args.ink []) k * c.args.limit / 255)
      (omega arith) (c.part.ensures ∙ ap (λ t. t * c.args.limit / 255) c.tone.ensures) c.loop-a.invariant.filled;
}
