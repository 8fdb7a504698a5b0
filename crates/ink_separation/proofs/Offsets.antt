-- Values put offset by offset.
use Rattle.std.proofs.Common.{◌≡◌, ℕ, ◌+◌, ◌*◌, ◌<◌, inl, inr, List, get_or, subst, sym, ◌∙◌, arith}
use Rattle.std.proofs.lemmas.Bool.{cases_lt}
use Rattle.ink_separation.specs.Planes.{HasOffsets, PutsColumn}

-- one offset more
pub offsets_more : (value : ℕ → ℕ → ℕ) (o : ℕ) (column old new : List ℕ) → ((r : ℕ) → r < 32 → get_or column r 0 ≡ value o r)
    → HasOffsets value o old → PutsColumn column o old new → HasOffsets value (o + 1) new
offsets_more value o column old new is has puts = record {
  is = λ k r low inside. elim (cases_lt k o) [
    | inl before ↦ puts.before (32 * k + r) (omega arith) ∙ has.is k r before inside
    | inr from ↦
        let same : k ≡ o = omega arith in
        subst (λ n. get_or new (32 * n + r) 0 ≡ value n r) (sym same) (puts.is r inside ∙ is r inside)
  ];
}
