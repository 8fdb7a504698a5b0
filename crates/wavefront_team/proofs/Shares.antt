-- Shares, one after another.
use Rattle.std.proofs.Common.{◌≡◌, ◌+◌, List, [], ◌∷◌, ◌++◌, get_or, length, inl, inr, sym, ap, arith}
use Rattle.std.proofs.Common.{subst, length-append, ◌∙◌}
use Rattle.std.proofs.Math.ListN.{get_or-append}
use Rattle.std.proofs.Math.Seq.{get_or-append_seam}
use Rattle.std.proofs.lemmas.Bool.{cases_lt}
use Rattle.worker_team.specs.Shares.{AllReady}

-- one share more
pub ready_more : {W : Type 0} (P : W → Type 0) (xs ys : List W) (x : W) → ys ≡ xs ++ x ∷ [] → AllReady P xs → P x → AllReady P ys
ready_more P xs ys x are all here k d low =
    let long : length ys ≡ length xs + 1 = omega (arith, ap length are, length-append xs (x ∷ [])) in
    rw are (elim (cases_lt k (length xs)) [
      | inl before ↦ subst P (sym (get_or-append xs (x ∷ []) d k before)) (all k d before)
      | inr not_before ↦
          let last : length xs ≡ k = omega arith in
          subst (λ n. P (get_or (xs ++ x ∷ []) n d)) last (subst P (sym (get_or-append_seam xs x [] d)) here)
    ])

-- one share less
pub ready_fewer : {W : Type 0} (P : W → Type 0) (xs ys : List W) (x : W) → ys ≡ xs ++ x ∷ [] → AllReady P ys → AllReady P xs
ready_fewer P xs ys x are all k d low =
    subst P (ap (λ zs. get_or zs k d) are ∙ get_or-append xs (x ∷ []) d k low)
    (all k d (omega (arith, ap length are, length-append xs (x ∷ []))))

-- the last share
pub last_ready : {W : Type 0} (P : W → Type 0) (xs ys : List W) (x : W) → ys ≡ xs ++ x ∷ [] → AllReady P ys → P x
last_ready P xs ys x are all =
    subst P (ap (λ zs. get_or zs (length xs) x) are ∙ get_or-append_seam xs x [] x)
    (all (length xs) x (omega (arith, ap length are, length-append xs (x ∷ []))))
