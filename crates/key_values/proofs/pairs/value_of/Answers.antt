use Rattle.key_values.proofs.Cuts.{no_value}
use Rattle.key_values.proofs.pairs.value_of.Goals as goal

pub returns-in-None : goal.returns-in-None
returns-in-None c = no_value c.args.word.now c.in-None.ensures
