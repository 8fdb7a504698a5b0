use Rattle.std.proofs.Common.{ℕ, ◌≡◌, ◌+◌, ◌-◌, List, ap, arith, drop, get_or, length-drop, length-take, ◌∙◌}
use Rattle.std.proofs.lemmas.List.{get_or-drop, get_or-take}
use Rattle.raw_rows.proofs.Parts.{part_kept}
use Rattle.raw_rows.specs.Lines.{first_byte}
use Rattle.raw_rows.specs.Gathering.{first_pixel}
use Rattle.raw_rows.proofs.kept.RawRows.row_bytes.Goals as goal

pub overflow_add-result : goal.overflow_add-result
overflow_add-result c = omega (
  arith,
  part_kept c.args.self.now c.args.place c.args.r c.requires.whole c.requires.r,
  c.part_of-part.ensures.first,
  c.part_of-part.ensures.many,
  c.line-line.ensures.long,
)

pub slice_bounds-result-end : goal.slice_bounds-result-end
slice_bounds-result-end c = omega (
  arith,
  part_kept c.args.self.now c.args.place c.args.r c.requires.whole c.requires.r,
  c.part_of-part.ensures.first,
  c.part_of-part.ensures.many,
  c.line-line.ensures.long,
)

pub returns-clause-are : goal.returns-clause-are
returns-clause-are c =
    let raw = c.args.self.now in
    let line : List ℕ = c.line-line.result.now in
    let first : ℕ = c.part_of-part.result.first in
    let many : ℕ = first + c.part_of-part.result.many - first in
    let rest : List ℕ = drop first line in
    let e = c.part_of-part.ensures in
    let is_many : many ≡ c.part_of-part.result.many = omega arith in
    record {
      byte = λ n low. get_or-take many rest n 0 (omega (arith, is_many, e.many, low)) ∙ get_or-drop first line n 0
          ∙ ap (λ m. get_or line (m + n) 0) e.first
          ∙ ap (λ (xs : List ℕ). get_or xs (first_byte raw.separator.kind (first_pixel raw c.args.place c.args.r) + n) 0) c.line-line.ensures.is;
    }

pub returns-clause-many : goal.returns-clause-many
returns-clause-many c =
    let line : List ℕ = c.line-line.result.now in
    let first : ℕ = c.part_of-part.result.first in
    let many : ℕ = first + c.part_of-part.result.many - first in
    let kept = part_kept c.args.self.now c.args.place c.args.r c.requires.whole c.requires.r in
    let e = c.part_of-part.ensures in
    let is_many : many ≡ c.part_of-part.result.many = omega arith in
    omega (arith, is_many, e.many, e.first, kept, c.line-line.ensures.long, length-take many (drop first line), length-drop first line)
