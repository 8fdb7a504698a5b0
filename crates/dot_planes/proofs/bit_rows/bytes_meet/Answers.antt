use Rattle.std.proofs.Common.{ℕ, Bool, ◌+◌, ◌*◌, ◌&&◌, ◌∙◌, not, sym, ap, arith, bit_and, get_or, inl, inr}
use Rattle.std.proofs.lemmas.Bool.{cases_eq, eq-eqb, ne_eqb}
use Rattle.dot_planes.specs.Tables.{row_dot}
use Rattle.dot_planes.proofs.LaidBytes.{IsPart, part-whole}
use Rattle.dot_planes.proofs.LaidRows.{IsSeen, any-no, any-some, before-next, both-dots, none-both, or-none, or-some}
use Rattle.dot_planes.proofs.bit_rows.bytes_meet.Goals as goal

pub loop-i-preserved : goal.loop-i-preserved
loop-i-preserved c =
    let f : ℕ → Bool = λ k. row_dot c.args.row.now k && row_dot c.args.other.now (c.args.x + k) in
    let part : ℕ = get_or c.args.row.now c.loop-i.i 0 in
    let is : IsPart c.args.row.now (8 * c.args.many) c.loop-i.i part =
    λ j low. part-whole c.args.row.now (8 * c.args.many) c.loop-i.i j (omega arith) low in
    let seen : IsSeen c.args.other.now c.args.x c.loop-i.i c.row_eight.result = λ j low.
    c.row_eight.ensures j low ∙ ap (row_dot c.args.other.now) (omega arith) in
    record {
      some = λ one. elim (or-some c.loop-i.both (bit_and part c.row_eight.result) one) [
        | inl before ↦ c.loop-i.invariant.some before
        | inr here ↦ both-dots c.args.row.now c.args.other.now (8 * c.args.many)
            c.args.x c.loop-i.i part c.row_eight.result (omega (arith, c.type_inv.row c.loop-i.i)) is seen here
      ];
      none = λ nothing k low.
          let both = or-none c.loop-i.both (bit_and part c.row_eight.result) nothing in
          before-next f (8 * c.args.many) c.loop-i.i (λ i less in_row. c.loop-i.invariant.none both.0 i less)
          (none-both c.args.row.now c.args.other.now
          (8 * c.args.many) c.args.x c.loop-i.i part c.row_eight.result is seen both.1) k low (omega arith);
    }

pub returns : goal.returns
returns c =
    let f : ℕ → Bool = λ k. row_dot c.args.row.now k && row_dot c.args.other.now (c.args.x + k) in
    elim (cases_eq c.loop-i.both 0) [
      | inl nothing ↦ ap not (eq-eqb c.loop-i.both 0 nothing)
          ∙ sym (any-no f (8 * c.args.many) (λ k low. c.loop-i.invariant.none nothing k (omega arith)))
      | inr some ↦
          let dot = c.loop-i.invariant.some some in
          ap not (ne_eqb c.loop-i.both 0 some) ∙ sym (any-some f (8 * c.args.many) dot.at dot.in_row dot.on)
    ]
