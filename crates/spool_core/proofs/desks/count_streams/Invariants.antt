use Rattle.std.proofs.Common.{◌≡◌, ◌≤◌, ◌*◌, map, take}
use Rattle.spool_queue.specs.Jobs.{count_sent}
use Rattle.spool_core.proofs.desks.count_streams.Given as goal

abbrev pub invariant-loop-list : goal.invariant-loop-list
invariant-loop-list l = record {
  count_is : l.count ≡ count_sent (map (λ list. list.items) (take l.list-index l.lists));
  most : l.count ≤ 64 * l.list-index;
}
