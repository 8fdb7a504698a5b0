use Rattle.std.proofs.Common.{◌≡◌, length}
use Rattle.spool_tests.proofs.tests.threads.streams.Given as goal

abbrev pub invariant-loop-i : goal.invariant-loop-i
invariant-loop-i l = length l.streams.items ≡ l.i
