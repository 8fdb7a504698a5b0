use Rattle.std.proofs.Common.{◌≡◌, ◌*◌, ◌-◌, ◌≤◌, take}
use Rattle.pwg_definitions.specs.Groups.{copies}
use Rattle.pwg_lines.proofs.buffer.repeat_unit.Given as goal

abbrev pub invariant-doublings : goal.invariant-doublings
invariant-doublings l = record {
  some : 1 ≤ l.times;
  most : l.times ≤ l.count;
  so_far : take (l.times * l.unit) l.bytes ≡ copies l.times (take l.unit l.initial.bytes);
}

abbrev pub decreases-doublings : goal.decreases-doublings
decreases-doublings l = l.count - l.times
