use Rattle.std.proofs.Common.{◌≡◌, ℕ, Bool, ◌+◌, ◌/◌, ◌||◌, ◌&&◌, ◌∙◌, ap, arith, length}
use Rattle.dot_planes.specs.Laying.{is_in_bytes, laid_dot}
use Rattle.dot_planes.specs.Tables.{row_dot}
use Rattle.dot_planes.proofs.LaidBytes.{laid-all, laid-stretch}
use Rattle.dot_planes.proofs.bit_rows.lay_row.Goals as goal

pub returns-clause-dots : goal.returns-clause-dots
returns-clause-dots c = λ d.
    let laid : ℕ → Bool = laid_dot c.args.row.now c.args.dots c.args.x in
    let many : ℕ = c.saturating_sub-many.result in
    let last : ℕ = c.args.x / 8 + (length c.args.row.now + 1) in
    let next : c.args.x / 8 + (many + 1) ≡ c.args.x / 8 + 1 + many = omega arith in
    let end = ap (λ n. row_dot c.lay_whole.new.over d || is_in_bytes n last d && laid d) next in
    laid-stretch c.args.over.now c.lay_whole.new.over c.lay_part-2.new.over laid (c.args.x / 8 + 0)
    (c.args.x / 8 + 1 + many) last d (omega arith) (omega (arith, c.saturating_sub-many.ensures))
    (laid-stretch c.args.over.now c.lay_part.new.over c.lay_whole.new.over laid
    (c.args.x / 8 + 0) (c.args.x / 8 + 1) (c.args.x / 8 + 1 + many) d (omega arith) (omega arith)
    (c.lay_part.ensures.dots d) (c.lay_whole.ensures.dots d))
    (c.lay_part-2.ensures.dots d ∙ end)
    ∙ ap (λ b. row_dot c.args.over.now d || b) (laid-all c.args.row.now c.args.dots c.args.x
    (c.args.x / 8 + 0) last d (omega arith) (omega (arith, c.requires.len)))
