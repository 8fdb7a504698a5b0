use Rattle.std.proofs.Common.{arith}
use Rattle.ink_meter.proofs.Settled.{settled_next, sum_fits, sum_more}
use Rattle.ink_meter.proofs.meters.settle.Goals as goal

pub sum_of-sum-requires : goal.sum_of-sum-requires
sum_of-sum-requires g c =
    let here = rw c.deref-meter-items.ensures.value at c.meter-item.is in
    let next = settled_next (λ m. (goal.Meter-dyn g (m.vtable, m.value)).account m.value)
    c.args.meters.items c.loop-meter.meter-index c.meter-item.result (omega arith) here in
    rw c.total_of.ensures.is (sum_fits _ _ _ c.loop-meter.sum _ next c.loop-meter.invariant c.requires)

pub loop-meter-preserved : goal.loop-meter-preserved
loop-meter-preserved g c =
    let here = rw c.deref-meter-items.ensures.value at c.meter-item.is in
    let next = settled_next (λ m. (goal.Meter-dyn g (m.vtable, m.value)).account m.value)
    c.args.meters.items c.loop-meter.meter-index c.meter-item.result (omega arith) here in
    rw (c.sum_of-sum.ensures, c.total_of.ensures.is) (sum_more _ _ _ c.loop-meter.sum _ next c.loop-meter.invariant)
