use Rattle.std.proofs.Common.{◌≡◌, ◌+◌, ◌≤◌, false, length}
use Rattle.escp2_reader.specs.Reading.{fed_of, is_failed_of}
use Rattle.escp2_tests.proofs.reader.feed_all.Given as goal

abbrev pub invariant-rest : goal.invariant-rest
invariant-rest l = record {
  fed : fed_of l.reader + length l.rest ≤ fed_of l.fn.reader + length l.fn.piece;
  is_open : is_failed_of l.reader ≡ false;
}

abbrev pub decreases-rest : goal.decreases-rest
decreases-rest l = length l.rest
