use Rattle.std.proofs.Common.{◌≡◌, ◌-◌, ap, arith, sym, length, take}
use Rattle.std.proofs.lemmas.List.{length-take-le}
use Rattle.escp2_rows.specs.Places.{pending}
use Rattle.escp2_rows.proofs.Steps.{at_place, literal_ends, literal_part, stands_moved}
use Rattle.escp2_rows.proofs.reader.RowReader.feed_literal.Goals as goal

pub returns-then-count-wanted-clause-gives : goal.returns-then-count-wanted-clause-gives
returns-then-count-wanted-clause-gives c =
    let count : length (take c.min-count.result c.args.bytes.now) ≡ c.min-count.result =
    length-take-le c.min-count.result c.args.bytes.now (omega (arith, c.min-count.ensures)) in
    record {
      left = omega (arith, count, ap pending c.requires.place, c.args.self.now.fits);
      stands = λ form sofar given so_far. stands_moved
          (literal_part (omega (arith, count, c.if-count-wanted.true)) (ap (λ k. c.args.self.now.row_left - k) (sym count)))
          (at_place c.requires.place so_far);
    }

pub returns-clause-gives : goal.returns-clause-gives
returns-clause-gives c =
    let count : length (take c.min-count.result c.args.bytes.now) ≡ c.min-count.result =
    length-take-le c.min-count.result c.args.bytes.now (omega (arith, c.min-count.ensures)) in
    let all : c.min-count.result ≡ c.args.wanted = omega (arith, c.min-count.ensures, c.if-count-wanted.false) in
    record {
      left = omega (arith, count, c.end_packet.ensures.left);
      stands = λ form sofar given so_far. at_place (sym c.end_packet.ensures.place)
          (stands_moved (literal_ends count all c.end_packet.ensures.reads)
          (at_place c.requires.place so_far));
    }
