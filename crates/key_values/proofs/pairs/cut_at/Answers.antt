use Rattle.std.proofs.Common.{eqb, refl, sym, ◌∙◌}
use Rattle.key_values.proofs.Cuts.{cut_found, cut_none}
use Rattle.key_values.proofs.pairs.cut_at.Goals as goal

pub returns-in-Some : goal.returns-in-Some
returns-in-Some c =
    cut_found (λ b. eqb b c.args.byte) c.args.text.now _ _ (sym c.in-Some.is ∙ c.place_of.ensures) refl

pub returns-in-None : goal.returns-in-None
returns-in-None c = cut_none (λ b. eqb b c.args.byte) c.args.text.now (sym c.in-None.is ∙ c.place_of.ensures)
