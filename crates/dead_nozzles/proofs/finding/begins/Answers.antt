use Rattle.std.proofs.Common.{◌≡◌, refl, sym, ◌∙◌, ap, ◌/◌}
use Rattle.dead_nozzles.specs.Plans.{is_free, owner}
use Rattle.dead_nozzles.specs.Plans.Begins.{a_make_up, a_pass, nothing}
use Rattle.dead_nozzles.proofs.Taking.{not-owned-none, owned-not-free}
use Rattle.dead_nozzles.proofs.finding.begins.Goals as goal

pub returns-then-begins_pass : goal.returns-then-begins_pass
returns-then-begins_pass c = a_pass (c.args.start / c.args.head.now.nozzles) (c.begins_pass.ensures.yes c.if-begins_pass.true) refl

pub returns-in_default : goal.returns-in_default
returns-in_default c = nothing (c.begins_pass.ensures.no c.if-begins_pass.false) (λ row e. let none = sym c.in_default.is ∙ c.row_under.ensures ∙ e in cc) refl

pub returns-then-is_some : goal.returns-then-is_some
returns-then-is_some c = nothing (c.begins_pass.ensures.no c.if-begins_pass.false)
    (λ row e. let same : c.in-Some.row ≡ row = cc in
    ap (λ y. is_free (owner c.args.owners.now y)) (sym same)
    ∙ owned-not-free (owner c.args.owners.now c.in-Some.row) c.is_some.result c.is_some.ensures c.if-is_some.true) refl

pub returns : goal.returns
returns c = a_make_up c.in-Some.row (sym c.in-Some.ensures)
    (not-owned-none (owner c.args.owners.now c.in-Some.row) c.is_some.result c.is_some.ensures c.if-is_some.false) c.take_rows.ensures
