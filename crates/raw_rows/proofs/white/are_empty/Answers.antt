use Rattle.std.proofs.Common.{ℕ, ap, arith, bit_or, get_or, inl, inr, ◌∙◌}
use Rattle.std.proofs.lemmas.Bool.{cases_eq, eq-eqb, eqb-true}
use Rattle.std.proofs.lemmas.Nat.{le_or_l, le_or_r}
use Rattle.raw_rows.proofs.white.are_empty.Goals as goal

pub loop-k-preserved : goal.loop-k-preserved
loop-k-preserved c =
    let byte : ℕ = get_or c.args.bytes.now c.loop-k.k 0 in
    let before = le_or_l c.loop-k.any byte in
    let here = le_or_r c.loop-k.any byte in
    record {
      most = λ n low. elim (cases_eq n c.loop-k.k) [
        | inl same ↦ omega (arith, here, ap (λ m. get_or c.args.bytes.now m 0) same)
        | inr other ↦ omega (arith, before, c.loop-k.invariant.most n (omega arith))
      ];
      empty = λ each.
          ap (λ a. bit_or a byte) (c.loop-k.invariant.empty (λ n low. each n (omega arith)))
          ∙ ap (λ b. bit_or 0 b) (each c.loop-k.k (omega arith));
    }

pub returns : goal.returns
returns c = (
  λ yes k low. omega (arith, eqb-true c.loop-k.any 0 yes, c.loop-k.invariant.most k (omega arith), c.type_inv.bytes k),
  λ each. eq-eqb c.loop-k.any 0 (c.loop-k.invariant.empty (λ n low. each n (omega arith))),
)
