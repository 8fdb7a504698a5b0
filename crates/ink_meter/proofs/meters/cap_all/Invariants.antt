use Rattle.std.proofs.Common.{length, ◌≡◌}
use Rattle.ink_meter.specs.Accounts.{capped}
use Rattle.ink_meter.proofs.Places.{ChangesSoFar}
use Rattle.ink_meter.proofs.meters.cap_all.Given as goal

abbrev pub invariant-loop-i : goal.invariant-loop-i
invariant-loop-i g l = record {
  same : length l.meters.items ≡ length l.fn.meters.items;
  capped : ChangesSoFar (λ m. (goal.Meter-dyn g (m.vtable, m.value)).account m.value) (capped l.cap) l.fn.meters.items l.meters.items l.i;
}
