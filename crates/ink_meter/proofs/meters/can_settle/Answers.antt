use Rattle.std.proofs.Common.{◌≡◌, false, true, arith}
use Rattle.ink_meter.proofs.Settled.{settled_next, sum_fits, sum_more, unsummed}
use Rattle.ink_meter.proofs.meters.can_settle.Goals as goal

pub returns-in_default : goal.returns-in_default
returns-in_default g c =
    let next = settled_next (λ m. (goal.Meter-dyn g (m.vtable, m.value)).account m.value)
    c.args.meters.now c.loop-meter.meter-index c.meter-item.result (omega arith) c.meter-item.is in (
      λ h. absurd (let never : false ≡ true = h in cc),
      λ fits. unsummed c.checked_sum.result c.in_default.not-Some c.checked_sum.ensures.none
          (rw c.total_of.ensures.is (sum_fits _ _ _ c.loop-meter.sum _ next c.loop-meter.invariant.so_far fits)),
    )

pub loop-meter-preserved : goal.loop-meter-preserved
loop-meter-preserved g c =
    let next = settled_next (λ m. (goal.Meter-dyn g (m.vtable, m.value)).account m.value)
    c.args.meters.now c.loop-meter.meter-index c.meter-item.result (omega arith) c.meter-item.is in
    record {
      so_far = rw (c.in-Some.ensures.some, c.total_of.ensures.is) (sum_more _ _ _ c.loop-meter.sum _ next c.loop-meter.invariant.so_far);
      fits = c.in-Some.ensures.fits;
    }
