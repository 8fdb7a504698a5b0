use Rattle.std.proofs.Common.{◌≡◌, ℕ, ◌*◌, ◌∙◌, inl, inr, ap, arith, get_or, min, sym}
use Rattle.std.proofs.lemmas.Bool.{cases_eq}
use Rattle.separation_definitions.specs.Amounts.{grey_ink}
use Rattle.ink_separation.specs.Separators.{amount_in}
use Rattle.ink_separation.proofs.Greys.{white_gives}
use Rattle.ink_separation.proofs.TileInks.{few, inks_more}
use Rattle.ink_separation.proofs.separator.Separator.separate_bits.Goals as goal

pub loop-i-preserved : goal.loop-i-preserved
unfolding amount_in
loop-i-preserved c =
    let s = c.args.self.now in
    let ink = c.at-ink.result in
    let byte : ℕ → ℕ = λ k. get_or c.args.columns.now k 0 in
    inks_more s.inks (λ i j n. amount_in s j (grey_ink s.inks j (255 * min 1 (byte n)))) c.loop-i.i c.from.result ink _
    c.args.out.now.inks c.loop-i.out.inks c.from.ensures (omega (arith, few s.inks)) c.at-ink.ensures
    (λ k low. elim (cases_eq (byte k) 0) [
      | inl none ↦
          let white : 255 * min 1 (byte k) ≡ 0 = omega (arith, none) in
          c.put_chosen.ensures.none k low none ∙ c.amount-none.ensures
          ∙ ap (amount_in s ink) (sym (white_gives s.inks ink)) ∙ ap (λ n. amount_in s ink (grey_ink s.inks ink n)) (sym white)
      | inr some ↦
          let black : 255 * min 1 (byte k) ≡ 255 = omega (arith, some) in
          c.put_chosen.ensures.full k low some ∙ c.amount-full.ensures
          ∙ ap (amount_in s ink) c.full_given.ensures ∙ ap (λ n. amount_in s ink (grey_ink s.inks ink n)) (sym black)
    ])
    c.loop-i.invariant
