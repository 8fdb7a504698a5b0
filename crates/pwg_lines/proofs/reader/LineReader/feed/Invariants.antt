use Rattle.std.proofs.Common.{length, ◌-◌}
use Rattle.pwg_lines.proofs.Feeding.{FedSoFar}
use Rattle.pwg_lines.proofs.reader.LineReader.feed.Given as goal

abbrev pub invariant-steps : goal.invariant-steps
invariant-steps l = FedSoFar l.fn.self l.self l.piece l.used

abbrev pub decreases-steps : goal.decreases-steps
decreases-steps l = length l.piece - l.used
