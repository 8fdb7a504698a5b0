use Rattle.page_laws.proofs.Shingling.{shingled-halves}
use Rattle.page_laws.proofs.shingled.shingled_rows_are_halves.Goals as goal

pub returns : goal.returns
returns c = shingled-halves
