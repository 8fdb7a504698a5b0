use Rattle.std.proofs.Common.{◌≡◌, false, length, ◌-◌, ◌≤◌, vec_capacity, vec_len}
use Rattle.escp2_rows.specs.Reading.{is_done_of}
use Rattle.escp2_rows.proofs.Feeding.{FedSoFar}
use Rattle.escp2_rows.proofs.reader.RowReader.feed.Given as goal

abbrev pub invariant-steps : goal.invariant-steps
invariant-steps l = record {
  fed : FedSoFar l.fn.self l.self l.piece l.used l.fn.out.items l.out.items (vec_len l.out) (vec_capacity l.out);
  kept : vec_capacity l.fn.out ≤ vec_capacity l.out;
  some : l.used ≡ 0 → is_done_of l.self ≡ false;
}

abbrev pub decreases-steps : goal.decreases-steps
decreases-steps l = length l.piece - l.used
