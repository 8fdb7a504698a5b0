use Rattle.std.proofs.Common.{length, ◌≡◌}
use Rattle.ink_meter.specs.Accounts.{added}
use Rattle.ink_meter.proofs.Places.{ChangesSoFar}
use Rattle.ink_meter.proofs.meters.add_all.Given as goal

abbrev pub invariant-loop-i : goal.invariant-loop-i
invariant-loop-i g l = record {
  same : length l.meters.items ≡ length l.fn.meters.items;
  counted : ChangesSoFar (λ m. (goal.Meter-dyn g (m.vtable, m.value)).account m.value) (added l.dots) l.fn.meters.items l.meters.items l.i;
}
