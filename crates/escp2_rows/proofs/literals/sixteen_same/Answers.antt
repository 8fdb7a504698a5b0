use Rattle.std.proofs.Common.{refl, eq-eqb}
use Rattle.std.proofs.lemmas.Bool.{ne_eqb}
use Rattle.escp2_rows.proofs.Lanes.{SameBytes, same_bytes}
use Rattle.escp2_rows.proofs.literals.sixteen_same.Goals as goal

bytes : (c : goal.After-first_set) → SameBytes c.args.row.now c.args.byte c.first_set.result
bytes c = same_bytes _ _ _ _ c.requires (λ x. rw (eq-eqb x x refl) refl) (λ x y ne. rw (ne_eqb x y ne) refl) c.first_set.ensures

pub returns-clause-few : goal.returns-clause-few
returns-clause-few c = (bytes c).few

pub returns-clause-same : goal.returns-clause-same
returns-clause-same c = (bytes c).same

pub returns-clause-other : goal.returns-clause-other
returns-clause-other c = (bytes c).other
