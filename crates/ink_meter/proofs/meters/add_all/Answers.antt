use Rattle.std.proofs.Common.{◌∙◌, arith, length-set}
use Rattle.ink_meter.specs.Accounts.{HasRoom, added}
use Rattle.ink_meter.proofs.Places.{one_more, value_meets}
use Rattle.ink_meter.proofs.meters.add_all.Goals as goal

pub add_one-requires : goal.add_one-requires
add_one-requires g c =
    let here = c.loop-i.invariant in
    value_meets (HasRoom c.args.dots.now) (λ m. (goal.Meter-dyn g (m.vtable, m.value)).account m.value)
    (added c.args.dots.now) c.args.meters.now.items c.loop-i.meters.items c.loop-i.i c.index_mut.result.now
    (omega arith) here.same here.counted c.index_mut.ensures.value c.requires

pub loop-i-preserved : goal.loop-i-preserved
loop-i-preserved g c =
    let here = c.loop-i.invariant in
    record {
      same = length-set c.loop-i.meters.items c.loop-i.i c.add_one.new.meter ∙ here.same;
      counted = one_more (λ m. (goal.Meter-dyn g (m.vtable, m.value)).account m.value) (added c.args.dots.now)
          c.args.meters.now.items c.loop-i.meters.items c.loop-i.i c.index_mut.result.now c.add_one.new.meter
          (omega arith) here.same here.counted c.index_mut.ensures.value c.add_one.ensures;
    }
