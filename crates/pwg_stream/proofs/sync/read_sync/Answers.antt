use Rattle.std.proofs.Common.{ap, sym, ◌∙◌}
use Rattle.std.specs.List.{starts_with}
use Rattle.std.specs.Prelude.{nat_eq}
use Rattle.pwg_definitions.specs.Stream.{sync_word}
use Rattle.pwg_stream.proofs.Prefixes.{bad_sync, good_sync}
use Rattle.pwg_stream.proofs.Taken.{takes_fewer, takes_no_sync}
use Rattle.pwg_stream.proofs.sync.read_sync.Goals as goal

pub returns-then-not-starts_with-clause-input : goal.returns-then-not-starts_with-clause-input
returns-then-not-starts_with-clause-input g c =
    let other = ap (λ bytes. starts_with nat_eq bytes sync_word) (sym c.bytes.ensures.bytes) ∙ sym c.starts_with.ensures.value
    ∙ c.if-not-starts_with.true in
    bad_sync _ _ c.fill.new.self c.fill.ensures.text c.in_ok-fill.ensures.end other

pub returns-clause-used : goal.returns-clause-used
returns-clause-used g c =
    let same = ap (λ bytes. starts_with nat_eq bytes sync_word) (sym c.bytes.ensures.bytes) ∙ sym c.starts_with.ensures.value
    ∙ c.if-not-starts_with.false in
    record { bytes = sync_word; is = good_sync _ _ c.fill.new.self c.use_up.new.self c.fill.ensures.text same c.use_up.ensures }

pub returns-in_err-fill-clause-taken : goal.returns-in_err-fill-clause-taken
returns-in_err-fill-clause-taken g c = λ _ want.
    takes_no_sync _ _ c.fill.new.self c.fill.ensures.text c.in_err-fill.ensures.short want

pub returns-in_err-fill-clause-short : goal.returns-in_err-fill-clause-short
returns-in_err-fill-clause-short g c = λ _. takes_fewer _ _ _ c.fill.new.self c.fill.ensures.text c.in_err-fill.ensures.short
