use Rattle.std.proofs.Common.{◌≡◌, ℕ, ◌+◌, ◌-◌, ◌*◌, ◌/◌, ◌%◌, ◌∙◌, ap, arith, length}
use Rattle.dot_planes.specs.Tables.{row_dot}
use Rattle.dot_planes.proofs.BandRows.{part_dot}
use Rattle.dot_planes.proofs.band_rows.put_wide.Goals as goal

pub returns-clause-dots : goal.returns-clause-dots
returns-clause-dots c = λ x inside.
    let skip : ℕ = c.args.r / 4 in
    let step : ℕ = c.args.r % 4 in
    let place : 8 * skip + (x + 2 * step) ≡ x + 2 * c.args.r = omega arith in
    let len : length c.take_steps.new.row ≡ length c.args.row.now = c.take_steps.auto.row in
    c.clear_spare.ensures.dots x inside
    ∙ c.take_steps.ensures x (omega (arith, len, c.requires.row))
    ∙ part_dot skip (skip + length c.args.row.now + 1 - skip) (x + 2 * step) c.args.wide.now (omega (arith, c.requires.row))
    ∙ ap (row_dot c.args.wide.now) place
