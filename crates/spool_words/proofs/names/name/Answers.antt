use Rattle.std.proofs.Common.{◌≡◌, ◌<◌, ◌-◌, length, slice_get, ap, ◌∙◌, arith, lit<}
use Rattle.std.specs.Option.{option_map}
use Rattle.std.proofs.lemmas.Iterator.Consumers.{nth_from_yields_List}
use Rattle.std.proofs.lemmas.Iterator.Splits.{YieldsList-from_str_split}
use Rattle.spool_words.specs.Meaning.{names_from}
use Rattle.spool_words.specs.Names.{names_in}
use Rattle.spool_words.proofs.SenderNames.{has_sender, name_found, name_here, names_here}
use Rattle.spool_words.proofs.names.name.Goals as goal

pub sent_by-requires-clause-within : goal.sent_by-requires-clause-within
sent_by-requires-clause-within c = has_sender _ _ _ c.requires.read c.requires.sender

pub unwrap-requires : goal.unwrap-requires
unwrap-requires c =
    let split = c.split.ensures in
    let is : names_from c.args.words.now c.args.sender ≡ names_in c.sent_by.result.now =
    names_here c.args.words.now c.args.sender c.sent_by.result.now c.sent_by.ensures in
    let found : option_map (λ text. text.now) c.nth.result ≡ slice_get (names_in c.sent_by.result.now) (c.args.number - 1) =
    nth_from_yields_List c.nth.result c.nth.new.self (c.args.number - 1) c.nth.ensures.ran
    (YieldsList-from_str_split 44 c.sent_by.result.now (lit< tt) split.text split.has_more split.pattern) in
    let within : c.args.number - 1 < length (names_in c.sent_by.result.now) = omega (arith, ap length is, c.requires.some_number, c.requires.number) in
    name_found (names_in c.sent_by.result.now) (c.args.number - 1) c.nth.result within found

pub returns : goal.returns
returns c =
    let split = c.split.ensures in
    let is : names_from c.args.words.now c.args.sender ≡ names_in c.sent_by.result.now =
    names_here c.args.words.now c.args.sender c.sent_by.result.now c.sent_by.ensures in
    let found : option_map (λ text. text.now) c.nth.result ≡ slice_get (names_in c.sent_by.result.now) (c.args.number - 1) =
    nth_from_yields_List c.nth.result c.nth.new.self (c.args.number - 1) c.nth.ensures.ran
    (YieldsList-from_str_split 44 c.sent_by.result.now (lit< tt) split.text split.has_more split.pattern) in
    ap (λ names. slice_get names (c.args.number - 1)) is
    ∙ name_here (names_in c.sent_by.result.now) (c.args.number - 1) c.nth.result c.unwrap.result found c.unwrap.ensures
