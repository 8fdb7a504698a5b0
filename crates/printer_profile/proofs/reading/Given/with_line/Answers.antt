use Rattle.std.proofs.Common.{ap, sym, ◌∙◌}
use Rattle.printer_profile.specs.Keys.{key_named}
use Rattle.printer_profile.proofs.TextLemmas.{line_skipped, line_not_ascii, line_no_equals, line_of_key}
use Rattle.printer_profile.proofs.reading.Given.with_line.Goals as goal

pub returns-then-is_skipped : goal.returns-then-is_skipped
returns-then-is_skipped c = line_skipped c.args.version _ _ (sym c.is_skipped.ensures ∙ c.if-is_skipped.true)

pub returns-then-not-is_text : goal.returns-then-not-is_text
returns-then-not-is_text c =
    line_not_ascii c.args.version _ _ (sym c.is_skipped.ensures ∙ c.if-is_skipped.false) (sym c.is_text.ensures ∙ c.if-not-is_text.true)

pub returns-in-None : goal.returns-in-None
returns-in-None c =
    line_no_equals c.args.version _ _ (sym c.is_skipped.ensures ∙ c.if-is_skipped.false) (sym c.is_text.ensures ∙ c.if-not-is_text.false) c.in-None.ensures

pub returns-in-None-key_named : goal.returns-in-None-key_named
returns-in-None-key_named c =
    let cut = c.in-Some.ensures in
    line_of_key c.args.version _ _ c.in-Some.value.now _ (sym c.is_skipped.ensures ∙ c.if-is_skipped.false) (sym c.is_text.ensures
    ∙ c.if-not-is_text.false) cut.0 cut.2 (sym c.in-None-key_named.is ∙ c.key_named.ensures ∙ ap (key_named c.args.version) cut.1)

pub returns-in-Some-key_named : goal.returns-in-Some-key_named
returns-in-Some-key_named c =
    let cut = c.in-Some.ensures in
    c.with_key.ensures
    ∙ line_of_key c.args.version _ _ c.in-Some.value.now _ (sym c.is_skipped.ensures ∙ c.if-is_skipped.false) (sym c.is_text.ensures
    ∙ c.if-not-is_text.false) cut.0 cut.2 (sym c.in-Some-key_named.is ∙ c.key_named.ensures ∙ ap (key_named c.args.version) cut.1)
