use Rattle.std.proofs.Common.{All, arith, map, subst}
use Rattle.std.proofs.lemmas.List.{length-map, take_all}
use Rattle.ink_meter.specs.Accounts.{HasRoom}
use Rattle.ink_meter.proofs.Places.{meets_more, stands_at}
use Rattle.ink_meter.proofs.meters.admit.Goals as goal

pub returns-then-not-has_room-clause-over : goal.returns-then-not-has_room-clause-over
returns-then-not-has_room-clause-over g c = record {
  account = (goal.Meter-dyn g (c.index-meters-index.result.vtable, c.index-meters-index.result.value)).account
      c.index-meters-index.result.value;
  stands = rw c.over_cap.ensures.index (stands_at (λ m. (goal.Meter-dyn g (m.vtable, m.value)).account m.value)
      c.args.meters.now c.loop-index.index c.index-meters-index.result (omega arith) c.index-meters-index.is);
  full = grind arith;
  others = rw c.over_cap.ensures.index c.loop-index.invariant;
  total_is = c.over_cap.ensures.total;
  cap_is = c.over_cap.ensures.cap;
}

pub loop-index-preserved : goal.loop-index-preserved
loop-index-preserved g c =
    meets_more (HasRoom c.args.dots.now) (λ m. (goal.Meter-dyn g (m.vtable, m.value)).account m.value)
    c.args.meters.now c.loop-index.index c.index-meters-index.result (omega arith) c.index-meters-index.is
    (grind arith) c.loop-index.invariant

pub returns-clause-room : goal.returns-clause-room
returns-clause-room g c =
    subst (All (HasRoom c.args.dots.now)) (take_all c.loop-index.index
    (map (λ m. (goal.Meter-dyn g (m.vtable, m.value)).account m.value) c.args.meters.now)
    (omega (arith, length-map c.args.meters.now (λ m. (goal.Meter-dyn g (m.vtable, m.value)).account m.value)))) c.loop-index.invariant
