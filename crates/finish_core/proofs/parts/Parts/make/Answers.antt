use Rattle.finish_core.proofs.Seen.{reads_none}
use Rattle.finish_core.proofs.parts.Parts.make.Goals as goal

pub returns : goal.returns
returns c = reads_none _ c.in_ok-make.ensures c.in_ok-make-2.ensures
