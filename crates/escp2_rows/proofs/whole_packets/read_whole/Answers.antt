use Rattle.std.proofs.Common.{◌≡◌, ℕ, ◌+◌, ◌-◌, drop, length, length-drop, take, suc, arith, subst}
use Rattle.std.proofs.lemmas.List.{take_all}
use Rattle.escp2_rows.specs.Packets.{ReadsRows}
use Rattle.escp2_rows.proofs.WholePackets.{reads_more, reads_next}
use Rattle.escp2_rows.proofs.whole_packets.read_whole.Goals as goal

pub returns-then-at-gt0-clause-reads : goal.returns-then-at-gt0-clause-reads
returns-then-at-gt0-clause-reads c =
    let taken = c.read_row-taken.ensures in
    let P : ℕ → Type 0 = λ k. ReadsRows c.args.row_bytes c.args.row_left c.args.rows_left k c.rows.at.rows_left c.args.filled
    c.read_row-taken.result.filled (take (c.rows.at.used + c.read_row-taken.result.used) c.args.piece.now) c.args.out.now
    c.read_row-taken.new.out in
    subst P (omega (arith, taken.least))
    (reads_more c.rows.at.used c.read_row-taken.result.used c.args.piece.now c.rows.invariant.reads (take_all _ _ (omega (arith, length-drop c.rows.at.used c.args.piece.now)))
    (taken.reads c.args.row_bytes c.rows.at.row_left c.rows.at.rows_left (omega (arith, c.min-end.ensures))))

pub rows-preserved : goal.rows-preserved
rows-preserved c =
    let taken = c.read_row-taken.ensures in
    let sized : length (drop c.rows.at.used c.args.piece.now) ≡ length c.args.piece.now - c.rows.at.used =
    length-drop c.rows.at.used c.args.piece.now in
    let more : c.rows.at.rows_left ≡ suc (c.rows.at.rows_left - 1) = omega arith in
    record {
      used = omega (arith, taken.used, sized);
      filled = omega (arith, taken.most, c.min-end.ensures);
      few = omega arith;
      short = omega arith;
      ended = λ none. absurd (omega (arith, c.requires.wide));
      none = λ none. absurd (omega (arith, taken.none (omega arith), c.rows.invariant.ended (omega arith)));
      reads = reads_next (c.rows.at.rows_left - 1)
          (reads_more c.rows.at.used c.read_row-taken.result.used c.args.piece.now c.rows.invariant.reads (take_all _ _ (omega (arith, sized)))
          (taken.reads c.args.row_bytes c.rows.at.row_left c.rows.at.rows_left (omega (arith, c.min-end.ensures))))
          (omega (arith, taken.least)) more;
    }
