use Rattle.page_laws.proofs.Worked.{made_up-fire, shingles-fire}
use Rattle.page_laws.proofs.shingles.worked_strokes_fire.Goals as goal

pub returns : goal.returns
returns c = record { shingled_rows = shingles-fire; made_up_rows = made_up-fire }
