use Rattle.std.proofs.Common.{◌*◌, ◌≤◌, ap, arith}
use Rattle.pwg_definitions.specs.Header.{row_of}
use Rattle.raw_rows.proofs.TileRows.{columns_of, part_at, parts_more}
use Rattle.raw_rows.proofs.kept.RawRows.put_bits.Goals as goal

pub loop-r-preserved : goal.loop-r-preserved
loop-r-preserved c =
    let room : 64 * (row_of c.args.self.now.separator.kind).unit ≤ 64 = omega (arith, ap (λ k. (row_of k).unit) c.requires) in
    parts_more _ _ 64 _ _ _ room c.loop-r.invariant c.put_bit_row.ensures

pub returns : goal.returns
returns c =
    columns_of _ _ _ _ _ _ (omega (arith, ap (λ k. (row_of k).unit) c.requires))
    (λ r low. part_at _ _ r _ _ _ (c.in_steps.ensures r low) (c.loop-r.invariant r (omega arith))) c.put_columns.ensures
