use Rattle.std.proofs.Common.{lit<}
use Rattle.std.proofs.lemmas.Iterator.Consumers.{count_from_yields_List}
use Rattle.std.proofs.lemmas.Iterator.Splits.{YieldsList-from_str_split}
use Rattle.spool_words.proofs.values.count_names.Goals as goal

pub returns-clause-count : goal.returns-clause-count
returns-clause-count c =
    let split = c.split.ensures in
    count_from_yields_List c.split.result _ c.count.ensures.ran
    (YieldsList-from_str_split 44 c.args.text.now (lit< tt) split.text split.has_more split.pattern)
