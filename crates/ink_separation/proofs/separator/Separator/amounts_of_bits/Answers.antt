use Rattle.std.proofs.Common.{◌∙◌, ap, inl, inr, sym}
use Rattle.separation_definitions.specs.Amounts.{grey_ink}
use Rattle.ink_separation.specs.Separators.{amount_in}
use Rattle.ink_separation.proofs.Greys.{white_gives}
use Rattle.ink_separation.proofs.separator.Separator.amounts_of_bits.Goals as goal

pub returns : goal.returns
unfolding amount_in
returns c = λ x low either.
    let s = c.args.self.now in
    elim either [
      | inl none ↦ c.chosen.ensures.none x low none ∙ c.amount-none.ensures
          ∙ ap (amount_in s c.args.ink) (sym (white_gives s.inks c.args.ink))
          ∙ ap (λ n. amount_in s c.args.ink (grey_ink s.inks c.args.ink n)) (sym none)
      | inr full ↦ c.chosen.ensures.full x low full ∙ c.amount-full.ensures
          ∙ ap (amount_in s c.args.ink) c.full_given.ensures
          ∙ ap (λ n. amount_in s c.args.ink (grey_ink s.inks c.args.ink n)) (sym full)
    ]
