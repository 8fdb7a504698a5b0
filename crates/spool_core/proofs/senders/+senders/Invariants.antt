use Rattle.std.proofs.Common.{◌+◌, ◌*◌, length}
use Rattle.spool_core.proofs.senders.+senders.Given as goal

abbrev pub decreases-send_all : goal.decreases-send_all
decreases-send_all g l = 2 * length l.works.items

abbrev pub decreases-others : goal.decreases-others
decreases-others g l = 2 * length l.works.items + 1
