use Rattle.std.proofs.Common.{◌≡◌, ◌≤◌, false}
use Rattle.escp2_reader.specs.Reading.{fed_of, is_failed_of}
use Rattle.escp2_tests.proofs.reader.read_bytes.Given as goal

abbrev pub invariant-bytes : goal.invariant-bytes
invariant-bytes l = record {
  fed : fed_of l.reader ≤ l.at;
  is_open : is_failed_of l.reader ≡ false;
}
