use Rattle.std.proofs.Common.{◌≡◌, ◌+◌, ◌-◌, ℕ, ap, arith, length}
use Rattle.dot_planes.specs.Tables.{AmountTable}
use Rattle.dot_planes.proofs.PutAmounts.{sets}
use Rattle.dot_planes.proofs.Writes.{put_items}
use Rattle.dot_planes.proofs.ink_rows.InkRows.put_part.Goals as goal

pub returns : goal.returns
returns c =
    let view = c.self.view_is in
    let inks : c.self.inside.inks ≡ c.args.self.now.inks = ap (λ (t : AmountTable). t.inks) view in
    let rows : c.self.inside.rows ≡ c.args.self.now.rows = ap (λ (t : AmountTable). t.rows) view in
    let width : c.self.inside.width ≡ c.args.self.now.width = ap (λ (t : AmountTable). t.width) view in
    let first : ℕ = c.row_start-row.result + c.args.x in
    sets _ _ c.args.ink c.args.y c.args.x first (first + length c.args.part.now - first) c.args.part.now _ view (record {
      is = put_items first _ c.self.inside.bytes.len _ _ _ _ c.deref_mut.ensures.value c.copy_from_slice.ensures.after
          (omega (arith, c.self.inside.bytes.ok.0)) (omega (arith, width)) (omega arith);
      len = c.self.invariant.len;
      ink = omega (arith, inks);
      row = omega (arith, rows);
      inside = omega (arith, width);
      first = omega arith;
      many = omega arith;
    })
