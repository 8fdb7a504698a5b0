use Rattle.std.proofs.Common.{length, sym, ap, ◌∙◌, arith}
use Rattle.spool_words.proofs.SenderNames.{good_names, has_sender, names_here}
use Rattle.spool_words.proofs.names.name_count.Goals as goal

pub sent_by-requires-clause-within : goal.sent_by-requires-clause-within
sent_by-requires-clause-within c = has_sender _ _ _ c.requires.read c.requires.within

pub overflow_cast-result : goal.overflow_cast-result
overflow_cast-result c =
    let is = names_here c.args.words.now c.args.sender c.sent_by.result.now c.sent_by.ensures in
    let good = good_names c.args.words.now c.args.request.now c.args.sender c.requires.read c.requires.some c.requires.within in
    omega (arith, c.count_names.ensures.count, ap length is, good.most)

pub returns-clause-count : goal.returns-clause-count
returns-clause-count c =
    c.count_names.ensures.count ∙ sym (ap length (names_here c.args.words.now c.args.sender c.sent_by.result.now c.sent_by.ensures))

pub returns-clause-most : goal.returns-clause-most
returns-clause-most c =
    let is = names_here c.args.words.now c.args.sender c.sent_by.result.now c.sent_by.ensures in
    let good = good_names c.args.words.now c.args.request.now c.args.sender c.requires.read c.requires.some c.requires.within in
    omega (arith, c.count_names.ensures.count, ap length is, good.most)
