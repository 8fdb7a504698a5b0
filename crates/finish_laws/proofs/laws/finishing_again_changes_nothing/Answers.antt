use Rattle.finish_laws.proofs.Ends.{finished-stays}
use Rattle.finish_laws.proofs.laws.finishing_again_changes_nothing.Goals as goal

pub returns : goal.returns
returns c = finished-stays
