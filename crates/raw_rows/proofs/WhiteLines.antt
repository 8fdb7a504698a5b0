-- Lines whose bytes are looked at in blocks.
use Rattle.std.proofs.Common.{ℕ, ◌≡◌, ◌+◌, ◌-◌, ◌*◌, ◌<◌, ◌≤◌, List, ap, arith, drop, get_or, inl, inr, length, sym, take, ◌∙◌}
use Rattle.std.proofs.lemmas.Bool.{cases_lt}
use Rattle.std.proofs.lemmas.List.{get_or-drop, get_or-take}

-- some bytes more, from the end of the first n on
pub more : (bytes : List ℕ) (white n many : ℕ) → n + many ≤ length bytes → ((k : ℕ) → k < n → get_or bytes k 0 ≡ white)
    → ((k : ℕ) → k < many → get_or (take (length bytes - n) (drop n bytes)) k 0 ≡ white)
    → (k : ℕ) → k < n + many → get_or bytes k 0 ≡ white
more bytes white n many room first next k low = elim (cases_lt k n) [
  | inl before ↦ first k before
  | inr from ↦
      let m : ℕ = k - n in
      let place : k ≡ n + m = omega arith in
      ap (λ q. get_or bytes q 0) place ∙ sym (get_or-drop n bytes m 0) ∙ sym (get_or-take (length bytes - n) (drop n bytes) m 0 (omega arith))
      ∙ next m (omega arith)
]
