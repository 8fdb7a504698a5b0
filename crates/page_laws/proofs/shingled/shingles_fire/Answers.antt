use Rattle.page_laws.proofs.Shingling.{shingles-fire}
use Rattle.page_laws.proofs.shingled.shingles_fire.Goals as goal

pub returns : goal.returns
returns c = shingles-fire
