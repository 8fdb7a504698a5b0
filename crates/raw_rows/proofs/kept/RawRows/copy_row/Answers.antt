use Rattle.std.proofs.Common.{ℕ, ◌≡◌, ◌+◌, ◌-◌, ◌*◌, ◌≤◌, List, ap, arith, drop, get_or, inl, inr, length-drop, length-take, ◌∙◌}
use Rattle.std.proofs.Math.Nat.{mul-le-mul_left}
use Rattle.std.proofs.lemmas.List.{get_or-drop, get_or-take}
use Rattle.raw_rows.proofs.TileRows.{few_units, kept_is, no_part, part_copied}
use Rattle.raw_rows.proofs.kept.RawRows.copy_row.Goals as goal

pub returns-then-self-y : goal.returns-then-self-y
returns-then-self-y c =
    no_part _ _ _ _ _ (λ offset x in_row. elim c.then-self-y.either [
      | inl past ↦ omega (arith, past, in_row.down)
      | inr none ↦ omega (arith, none, c.span-span.ensures.from offset x in_row, c.span-span.ensures.to offset x in_row)
    ])

pub returns : goal.returns
returns c =
    let raw = c.args.self.now in
    let s = raw.separator in
    let span = c.span-span.result in
    let unit : ℕ = c.args.unit in
    let line : List ℕ = c.line-line.result.now in
    let first : ℕ = unit * span.first in
    let many : ℕ = first + unit * span.many - first in
    let room : unit * (span.first + span.many) ≤ unit * (s.window.left + s.window.width) =
    mul-le-mul_left unit (c.span-span.ensures.inside (omega arith)) in
    let long = kept_is s unit c.requires.unit in
    record {
      part = part_copied raw c.args.place c.args.r unit (256 * c.args.r) span c.put.new.out c.requires.unit c.span-span.ensures (λ k low.
          c.put.ensures.there k (omega (
            arith,
            room,
            long,
            c.line-line.ensures.long,
            length-take many (drop first line),
            length-drop first line,
          ))
          ∙ get_or-take many (drop first line) k 0 (omega arith) ∙ get_or-drop first line k 0
          ∙ ap (λ (xs : List ℕ). get_or xs (first + k) 0) c.line-line.ensures.is);
      above = λ n low. c.put.ensures.others n (inl (omega arith));
    }
