use Rattle.std.proofs.Common.{◌+◌, ◌<◌, length, sym, ◌∙◌, subst, arith, List, ℕ}
use Rattle.std.proofs.lemmas.Bool.{eqb-false, eqb-true}
use Rattle.pwg_lines.proofs.Writing.{UnequalSoFar, parts_tested, unequal_begin, unequal_end, unequal_full, unequal_step, unequal_stop}
use Rattle.pwg_lines.proofs.writer.unequal_units.Goals as goal

pub units-init : goal.units-init
units-init c = unequal_begin _ _ _ c.requires.unit c.requires.whole

pub returns-then-starts_with : goal.returns-then-starts_with
returns-then-starts_with c = unequal_stop _ _ _ _ _ c.units.invariant
    (parts_tested _ _ c.split_at.ensures.front c.split_at.ensures.back c.starts_with.ensures.value c.if-starts_with.true)

pub units-preserved : goal.units-preserved
units-preserved c =
    let some : 0 < length c.units.rest.now = omega (arith, eqb-false _ _ (sym c.is_empty.ensures ∙ c.if-not-is_empty.true)) in
    let P : List ℕ → Type 0 = UnequalSoFar 128 c.args.unit c.args.line.now (c.units.count + 1) in
    subst P (sym c.split_at.ensures.back) (unequal_step _ _ _ _ _ c.units.invariant c.units-test.true some
    (parts_tested _ _ c.split_at.ensures.front c.split_at.ensures.back c.starts_with.ensures.value c.if-starts_with.false))

pub returns-else-not-is_empty : goal.returns-else-not-is_empty
returns-else-not-is_empty c = unequal_end _ _ _ _ _ c.units.invariant (eqb-true _ _ (sym c.is_empty.ensures ∙ c.if-not-is_empty.false))

pub returns-after-units : goal.returns-after-units
returns-after-units c = unequal_full _ _ _ _ _ c.units.invariant c.units-test.false
