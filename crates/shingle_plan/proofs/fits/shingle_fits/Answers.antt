use Rattle.std.proofs.Common.{ℕ, ◌≤◌, subst}
use Rattle.std.proofs.lemmas.Bool.{eq-eqb, eqb-true}
use Rattle.std.proofs.lemmas.Nat.Gcd.{same_from_IsGcd}
use Rattle.std.specs.Int.{IsGcd}
use Rattle.shingle_plan.specs.Shingles.{half}
use Rattle.shingle_plan.proofs.fits.shingle_fits.Goals as goal
use Rattle.shingle_plan.proofs.fits.shingle_fits.Goals.{then-half-ge1, else-half-ge1}

pub returns-then-pitch-ge1 : goal.returns-then-pitch-ge1
returns-then-pitch-ge1 c =
    let a : ℕ = half c.args.nozzles in
    let some : 1 ≤ a = elim c.if-half-ge1.branch [ then-half-ge1 w ↦ search | else-half-ge1 w ↦ search ] in
    let near : 1 ≤ c.args.pitch = search in
    let common : IsGcd a c.args.pitch c.greatest_common_divisor.result = c.greatest_common_divisor.ensures in (
      λ is. (some, near, subst (λ g. IsGcd a c.args.pitch g) (eqb-true c.greatest_common_divisor.result 1 is) common),
      λ fits. eq-eqb c.greatest_common_divisor.result 1 (same_from_IsGcd a c.args.pitch c.greatest_common_divisor.result 1 common fits.2),
    )
