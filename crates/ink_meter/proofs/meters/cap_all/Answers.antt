use Rattle.std.proofs.Common.{◌∙◌, arith, length-set}
use Rattle.ink_meter.specs.Accounts.{capped}
use Rattle.ink_meter.proofs.Places.{one_more}
use Rattle.ink_meter.proofs.meters.cap_all.Goals as goal

pub loop-i-preserved : goal.loop-i-preserved
loop-i-preserved g c =
    let here = c.loop-i.invariant in
    record {
      same = length-set c.loop-i.meters.items c.loop-i.i c.cap_one.new.meter ∙ here.same;
      capped = one_more (λ m. (goal.Meter-dyn g (m.vtable, m.value)).account m.value) (capped c.args.cap)
          c.args.meters.now.items c.loop-i.meters.items c.loop-i.i c.index_mut.result.now c.cap_one.new.meter
          (omega arith) here.same here.capped c.index_mut.ensures.value c.cap_one.ensures;
    }
