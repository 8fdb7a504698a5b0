use Rattle.pwg_lines.proofs.Spelling.{canonical-spells}
use Rattle.pwg_lines.proofs.laws.canonical_spells.Goals as goal

pub returns : goal.returns
returns c = canonical-spells
