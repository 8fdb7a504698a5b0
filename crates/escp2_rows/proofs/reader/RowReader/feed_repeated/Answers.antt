use Rattle.std.proofs.Common.{ℕ, arith, sym}
use Rattle.std.proofs.lemmas.List.{length-replicate}
use Rattle.escp2_rows.proofs.Steps.{at_place, repeated_moves, stands_moved}
use Rattle.escp2_rows.proofs.reader.RowReader.feed_repeated.Goals as goal

pub returns-clause-gives : goal.returns-clause-gives
returns-clause-gives c = record {
  left = omega (arith, length-replicate {A = ℕ} c.args.count c.args.byte, c.end_packet.ensures.left);
  stands = λ form sofar given so_far. at_place (sym c.end_packet.ensures.place)
      (stands_moved (repeated_moves c.args.byte c.end_packet.ensures.reads)
      (at_place c.requires.place so_far));
}
