use Rattle.std.proofs.Common.{◌≡◌, ◌+◌, length, take, drop, sym, ◌∙◌, ap, subst, arith, List, ℕ, length-drop}
use Rattle.std.proofs.lemmas.List.{length-take-le, take_all}
use Rattle.pwg_lines.proofs.Writing.{CopiesSoFar, copies_end, copies_step, copies_stop}
use Rattle.pwg_lines.proofs.writer.equal_units.Goals as goal

pub returns-then-not-starts_with : goal.returns-then-not-starts_with
returns-then-not-starts_with c = copies_stop _ _ _ _ _ c.units.invariant (sym c.starts_with.ensures.value ∙ c.if-not-starts_with.true)

pub units-preserved : goal.units-preserved
units-preserved c =
    let sized : length (take c.args.unit c.args.line.now) ≡ c.args.unit = length-take-le c.args.unit c.args.line.now c.requires in
    let P : List ℕ → Type 0 = CopiesSoFar 128 (take c.args.unit c.args.line.now) c.args.line.now (c.units.count + 1) in
    subst P (ap (λ k. drop k c.units.rest.now) sized ∙ sym (take_all _ _ (omega (arith, length-drop c.args.unit c.units.rest.now))))
    (copies_step _ _ _ _ _ c.units.invariant c.units-test.true (sym c.starts_with.ensures.value ∙ c.if-not-starts_with.false))

pub returns : goal.returns
returns c = copies_end _ _ _ _ _ c.units.invariant c.units-test.false
