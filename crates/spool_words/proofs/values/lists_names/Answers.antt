use Rattle.std.proofs.Common.{◌≡◌, ℕ, ◌<◌, ◌≤◌, Bool, ◌&&◌, leb, length, ◌∙◌, arith, rules, lit<}
use Rattle.std.specs.List.{list_all}
use Rattle.std.proofs.lemmas.Bool.Decides.{nat_tests}
use Rattle.std.proofs.lemmas.Iterator.Search.{all_from_yields_List}
use Rattle.std.proofs.lemmas.Iterator.Splits.{YieldsList-from_str_split}
use Rattle.spool_words.specs.Names.{is_name, names_in}
use Rattle.spool_words.proofs.values.lists_names.Goals as goal

few : (count most : ℕ) (each : Bool) → count ≤ most → each ≡ (leb count most && each)
few count most each h = grind (arith, nat_tests)

pub returns-then-count_names-le-MOST_NAMES : goal.returns-then-count_names-le-MOST_NAMES
returns-then-count_names-le-MOST_NAMES c =
    let split = c.split.ensures in
    let each : c.all.result ≡ list_all is_name (names_in c.args.text.now) =
    all_from_yields_List is_name _ _ _ c.all.ensures.ran
    (YieldsList-from_str_split 44 c.args.text.now (lit< tt) split.text split.has_more split.pattern) (λ x b q k. search rules) in
    each ∙ few (length (names_in c.args.text.now)) 64 (list_all is_name (names_in c.args.text.now)) (omega (arith, c.count_names.ensures.count))

fails : (n count most : ℕ) (each : Bool) → n ≡ count → most < n → leb n most ≡ (leb count most && each)
fails n count most each same h = grind (arith, nat_tests)

pub returns-else-count_names-le-MOST_NAMES : goal.returns-else-count_names-le-MOST_NAMES
returns-else-count_names-le-MOST_NAMES c =
    fails c.count_names.result (length (names_in c.args.text.now)) 64 (list_all is_name (names_in c.args.text.now))
    c.count_names.ensures.count c.if-count_names-le-MOST_NAMES.false
