use Rattle.std.proofs.Common.{ℕ, Bool, ◌+◌, ◌*◌, ◌&&◌, ◌∙◌, not, sym, ap, arith, bit_and, inl, inr}
use Rattle.std.proofs.lemmas.Bool.{cases_eq, eq-eqb, ne_eqb}
use Rattle.dot_planes.specs.Tables.{row_dot}
use Rattle.dot_planes.proofs.LaidRows.{any-more, any-no, any-none-of, any-some, before-next, both-dots, none-both}
use Rattle.dot_planes.proofs.bit_rows.row_meets.Goals as goal

pub returns-then-bytes_meet : goal.returns-then-bytes_meet
returns-then-bytes_meet c =
    sym (any-more (λ k. row_dot c.args.row.now k && row_dot c.args.other.now (c.args.x + k)) (8 * c.in-Some.last) c.args.dots (omega arith)
    (sym c.bytes_meet.ensures ∙ c.if-bytes_meet.true))

pub returns : goal.returns
returns c =
    let f : ℕ → Bool = λ k. row_dot c.args.row.now k && row_dot c.args.other.now (c.args.x + k) in
    elim (cases_eq (bit_and c.row_part.result c.window.result) 0) [
      | inl nothing ↦
          ap not (eq-eqb (bit_and c.row_part.result c.window.result) 0 nothing)
          ∙ sym (any-no f c.args.dots (λ k low. before-next f c.args.dots c.in-Some.last
          (λ i less in_row. any-none-of f (8 * c.in-Some.last) i (sym c.bytes_meet.ensures ∙ c.if-bytes_meet.false) less)
          (none-both c.args.row.now c.args.other.now c.args.dots c.args.x c.in-Some.last
          c.row_part.result c.window.result c.row_part.ensures c.window.ensures nothing) k (omega arith) low))
      | inr some ↦
          let dot = both-dots c.args.row.now c.args.other.now c.args.dots c.args.x c.in-Some.last
          c.row_part.result c.window.result c.row_part.type_inv c.row_part.ensures c.window.ensures some in
          ap not (ne_eqb (bit_and c.row_part.result c.window.result) 0 some) ∙ sym (any-some f c.args.dots dot.at dot.in_row dot.on)
    ]
