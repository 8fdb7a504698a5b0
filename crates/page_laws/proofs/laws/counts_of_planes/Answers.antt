use Rattle.page_laws.proofs.Planes.{other-counts, plane-counts}
use Rattle.page_laws.proofs.laws.counts_of_planes.Goals as goal

pub returns : goal.returns
returns c = record { in_the_set = plane-counts; other_inks = other-counts }
