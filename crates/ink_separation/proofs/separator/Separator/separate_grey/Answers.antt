use Rattle.std.proofs.Common.{ℕ, ◌∙◌, ap, get_or, sym}
use Rattle.std.proofs.lemmas.List.{get_or-replicate}
use Rattle.ink_separation.specs.Columns.{grey_in}
use Rattle.ink_separation.specs.Separators.{amount_in}
use Rattle.ink_separation.proofs.Greys.{takes_all, takes_nothing}
use Rattle.ink_separation.proofs.separator.Separator.separate_grey.Goals as goal

pub returns-then-full_given-eq0 : goal.returns-then-full_given-eq0
unfolding amount_in
returns-then-full_given-eq0 c = λ n low.
    let s = c.args.self.now in
    let dark : ℕ = grey_in c.args.light (get_or c.args.columns.now n 0) in
    get_or-replicate {A = ℕ} 2048 n c.amount-plane.result 0 low ∙ c.amount-plane.ensures
    ∙ ap (amount_in s c.args.ink) (sym (takes_nothing s.inks c.args.ink dark (sym c.full_given.ensures ∙ c.if-full_given-eq0.true)))

pub returns-else-full_given-eq0 : goal.returns-else-full_given-eq0
unfolding amount_in
returns-else-full_given-eq0 c = λ n low.
    let s = c.args.self.now in
    let dark : ℕ = grey_in c.args.light (get_or c.args.columns.now n 0) in
    c.scale.ensures n low ∙ ap (amount_in s c.args.ink) (c.put_greys.ensures n low
    ∙ sym (takes_all s.inks c.args.ink dark (λ none. c.if-full_given-eq0.false (c.full_given.ensures ∙ none))))
