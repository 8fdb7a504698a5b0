use Rattle.std.proofs.Common.{drop, map}
use Rattle.ink_meter.specs.Accounts.{settled}
use Rattle.ink_meter.proofs.Settled.{SumSoFar}
use Rattle.ink_meter.proofs.meters.settle.Given as goal

abbrev pub invariant-loop-meter : goal.invariant-loop-meter
invariant-loop-meter g l =
    let accounts = map (λ m. (goal.Meter-dyn g (m.vtable, m.value)).account m.value) l.fn.meters.items in
    SumSoFar (settled accounts) (settled (drop l.meter-index accounts)) l.sum
