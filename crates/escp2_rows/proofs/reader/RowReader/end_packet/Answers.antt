use Rattle.std.proofs.Common.{◌≡◌, ◌-◌, refl, arith, suc}
use Rattle.escp2_rows.proofs.Steps.{next_left, row_follows}
use Rattle.escp2_rows.proofs.reader.RowReader.end_packet.Goals as goal

pub returns : goal.returns
returns c =
    let more : c.args.self.now.rows_left ≡ suc (c.args.self.now.rows_left - 1) = omega arith in
    record {
      place = refl;
      left = next_left _ _ c.args.self.now.row_bytes _ _ (omega arith) more;
      reads = row_follows _ _ _ _ (omega arith) more;
    }
