use Rattle.std.proofs.Common.{◌≡◌, ℕ, ◌≤◌, List, [], ◌∷◌, length, get_or, arith}
use Rattle.escp2_definitions.specs.Least.{equal_at}
use Rattle.escp2_rows.proofs.Ends.{equal_first, equal_one}
use Rattle.escp2_rows.proofs.Passing.{equal_some}
use Rattle.escp2_rows.proofs.costs.equal_two.Goals as goal

two_counted : (row : List ℕ) → 2 ≤ length row → equal_at row ≤ 2 → get_or row 0 0 ≡ get_or row 1 0 → 2 ≡ equal_at row
two_counted [] some few e = absurd (omega arith)
two_counted (b ∷ []) some few e = absurd (omega arith)
two_counted (b ∷ c ∷ row) some few e = omega (arith, few, equal_first b c row e, equal_some (c ∷ row) (omega arith))

pub returns-then-row : goal.returns-then-row
returns-then-row c = two_counted _ c.requires.two c.requires.few c.if-row.true

pub returns-else-row : goal.returns-else-row
returns-else-row c = equal_one _ (omega (arith, c.requires.two)) (λ some. c.if-row.false)
