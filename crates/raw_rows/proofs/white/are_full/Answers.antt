use Rattle.std.proofs.Common.{ℕ, ap, arith, bit_and, get_or, inl, inr, ◌∙◌}
use Rattle.std.proofs.lemmas.Bool.{cases_eq, eq-eqb, eqb-true}
use Rattle.std.proofs.lemmas.Nat.{and_le_l, and_le_r}
use Rattle.raw_rows.proofs.white.are_full.Goals as goal

pub loop-k-preserved : goal.loop-k-preserved
loop-k-preserved c =
    let byte : ℕ = get_or c.args.bytes.now c.loop-k.k 0 in
    let before = and_le_l c.loop-k.all byte in
    let here = and_le_r c.loop-k.all byte in
    record {
      least = λ n low. elim (cases_eq n c.loop-k.k) [
        | inl same ↦ omega (arith, here, ap (λ m. get_or c.args.bytes.now m 0) same)
        | inr other ↦ omega (arith, before, c.loop-k.invariant.least n (omega arith))
      ];
      full = λ each.
          ap (λ a. bit_and a byte) (c.loop-k.invariant.full (λ n low. each n (omega arith)))
          ∙ ap (λ b. bit_and 255 b) (each c.loop-k.k (omega arith));
    }

pub returns : goal.returns
returns c = (
  λ yes k low. omega (arith, eqb-true c.loop-k.all 255 yes, c.loop-k.invariant.least k (omega arith), c.type_inv.bytes k),
  λ each. eq-eqb c.loop-k.all 255 (c.loop-k.invariant.full (λ n low. each n (omega arith))),
)
