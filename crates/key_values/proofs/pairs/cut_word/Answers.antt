use Rattle.std.proofs.Common.{rules}
use Rattle.key_values.proofs.Cuts.{parts_of}
use Rattle.key_values.proofs.pairs.cut_word.Goals as goal

pub returns : goal.returns
returns c = search (rules, parts_of)
