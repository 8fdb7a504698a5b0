use Rattle.std.proofs.Common.{drop, map}
use Rattle.ink_meter.specs.Accounts.{Fits, settled}
use Rattle.ink_meter.proofs.Settled.{SumSoFar}
use Rattle.ink_meter.proofs.meters.can_settle.Given as goal

abbrev pub invariant-loop-meter : goal.invariant-loop-meter
invariant-loop-meter g l =
    let accounts = map (λ m. (goal.Meter-dyn g (m.vtable, m.value)).account m.value) l.meters in
    record {
      so_far : SumSoFar (settled accounts) (settled (drop l.meter-index accounts)) l.sum;
      fits : Fits l.sum;
    }
