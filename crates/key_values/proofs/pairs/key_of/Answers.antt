use Rattle.key_values.proofs.Cuts.{whole_key}
use Rattle.key_values.proofs.pairs.key_of.Goals as goal

pub returns-in-None : goal.returns-in-None
returns-in-None c = whole_key c.args.word.now c.in-None.ensures
