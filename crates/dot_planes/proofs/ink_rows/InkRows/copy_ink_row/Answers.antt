use Rattle.std.proofs.Common.{◌≡◌, ◌+◌, ◌-◌, ◌*◌, ◌∙◌, ℕ, ap, arith, inl, inr, get_or, sym}
use Rattle.dot_planes.specs.Tables.{AmountTable}
use Rattle.dot_planes.proofs.PutAmounts.{copies}
use Rattle.dot_planes.proofs.ink_rows.InkRows.copy_ink_row.Goals as goal

pub returns : goal.returns
returns c =
    let view = c.self.view_is in
    let rows : c.self.inside.rows ≡ c.args.self.now.rows = ap (λ (t : AmountTable). t.rows) view in
    let source : ℕ = c.row_start-source.result in
    let start : ℕ = c.row_start-start.result in
    let copied = c.copy_within.ensures.by_index in
    copies _ _ c.args.ink c.args.from c.args.y _ view (record {
      row = omega (arith, rows);
      copy = λ x inside.
          let there : start + x ≡ (c.args.ink * c.self.inside.rows + c.args.y) * c.self.inside.width + x =
          ap (λ n. n + x) c.row_start-start.ensures.is in
          let here : source + (start + x - start) ≡ (c.args.ink * c.self.inside.rows + c.args.from) * c.self.inside.width + x =
          omega (arith, c.row_start-source.ensures.is) in
          ap (λ n. get_or c.copy_within.new.self.items n 0) (sym there)
          ∙ copied.0 (start + x) 0 (omega arith) (omega arith)
          ∙ ap (λ n. get_or c.self.inside.bytes.items n 0) here;
      rest = λ n beside. elim beside [
        | inl before ↦ copied.1 n 0 (omega (arith, c.row_start-start.ensures.is))
        | inr after ↦ copied.2 n 0 (omega (arith, c.row_start-start.ensures.is))
      ];
    })
