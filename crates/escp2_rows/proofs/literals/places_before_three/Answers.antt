use Rattle.std.proofs.Common.{refl, eq-eqb}
use Rattle.std.proofs.lemmas.Bool.{ne_eqb}
use Rattle.escp2_rows.proofs.Lanes.{ApartPlaces, apart_places}
use Rattle.escp2_rows.proofs.literals.places_before_three.Goals as goal

places : (c : goal.After-first_set) → ApartPlaces c.args.row.now c.first_set.result
places c = apart_places _ _ _ c.requires (λ x. rw (eq-eqb x x refl) refl) (λ x y ne. rw (ne_eqb x y ne) refl) c.first_set.ensures

pub returns-clause-few : goal.returns-clause-few
returns-clause-few c = (places c).few

pub returns-clause-apart : goal.returns-clause-apart
returns-clause-apart c = (places c).apart

pub returns-clause-three : goal.returns-clause-three
returns-clause-three c = (places c).three
