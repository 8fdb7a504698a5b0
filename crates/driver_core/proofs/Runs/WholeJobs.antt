-- Jobs that were read to their end.
use Rattle.std.proofs.Common.{◌≡◌, ℕ, List, ◌++◌, Option, None, Some, sym, ◌∙◌, ap, append-nil, subst}
use Rattle.std.specs.Io.KnownBytes.{Consumes, IsAtEnd}

pub told_whole : (before : Option (List ℕ)) (bytes : List ℕ) (taken : List ℕ) (now : Option (List ℕ))
    → before ≡ Some bytes → Consumes before now taken → IsAtEnd now → taken ≡ bytes
told_whole before bytes taken now told takes end = by_now now (subst (λ b. Consumes b now taken) told takes) end
  where
    by_now : (left : Option (List ℕ)) → Consumes (Some bytes) left taken → IsAtEnd left → taken ≡ bytes
    by_now None takes end = absurd takes
    by_now (Some ys) takes end = sym (append-nil taken) ∙ ap (λ bs. taken ++ bs) (sym end) ∙ sym takes
