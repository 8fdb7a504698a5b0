use Rattle.std.proofs.Common.{◌+◌, ◌*◌, length}
use Rattle.worker_team.proofs.beside.+workers.Given as goal

abbrev pub decreases-run_beside : goal.decreases-run_beside
decreases-run_beside g l = 3 * length l.shares.now

abbrev pub decreases-run_first : goal.decreases-run_first
decreases-run_first g l = 3 * length l.rest.now + 2

abbrev pub decreases-run_first-others : goal.decreases-run_first-others
decreases-run_first-others g l = 3 * length l.rest.now + 1
