use Rattle.std.proofs.Common.{All, map, take}
use Rattle.ink_meter.specs.Accounts.{HasRoom}
use Rattle.ink_meter.proofs.meters.admit.Given as goal

abbrev pub invariant-loop-index : goal.invariant-loop-index
invariant-loop-index g l = All (HasRoom l.dots) (take l.index (map (λ m. (goal.Meter-dyn g (m.vtable, m.value)).account m.value) l.meters))
