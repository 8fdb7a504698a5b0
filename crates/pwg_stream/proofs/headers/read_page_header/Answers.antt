use Rattle.std.proofs.Common.{◌<◌, ◌≤◌, length, arith, ap, sym, ◌∙◌, take}
use Rattle.std.proofs.KnownBytes.{Keeps-trans}
use Rattle.pwg_definitions.specs.Limits.{header_length}
use Rattle.pwg_definitions.specs.Header.{check, header_of}
use Rattle.pwg_stream.proofs.Prefixes.{bad_header, cut_header, good_header, too_many, uses-none}
use Rattle.pwg_stream.proofs.Taken.{takes_fewer, takes_none, takes_short_header}
use Rattle.pwg_stream.proofs.headers.read_page_header.Goals as goal

pub returns-then-pages-eq-MOST_PAGES-clause-input : goal.returns-then-pages-eq-MOST_PAGES-clause-input
returns-then-pages-eq-MOST_PAGES-clause-input g c =
    let some : 1 ≤ length c.fill.new.self = omega (arith, ap length c.bytes.ensures.bytes) in
    rw c.refuse.ensures (too_many c.args.want c.args.pages _ _ c.fill.new.self c.fill.ensures.text some c.if-pages-eq-MOST_PAGES.true)

pub returns-in-None-clause-input : goal.returns-in-None-clause-input
returns-in-None-clause-input g c =
    let some : 1 ≤ length c.fill.new.self = omega (arith, ap length c.bytes.ensures.bytes) in
    let short : length c.fill-2.new.self < header_length = omega (arith, c.in-None.ensures, ap length c.bytes-2.ensures.bytes) in
    rw c.refuse-in-None.ensures
    (cut_header c.args.want c.args.pages _ _ _ c.fill.new.self c.fill-2.new.self c.fill.ensures.text some c.fill-2.ensures.text
    (omega arith) short (c.in_ok-fill-2.ensures.end short))

pub use_up-requires : goal.use_up-requires
use_up-requires g c = omega (arith, c.in-Some.ensures, ap length c.bytes-2.ensures.bytes)

pub returns-in-Ok-clause-form : goal.returns-in-Ok-clause-form
returns-in-Ok-clause-form g c =
    let header = c.in-Some.ensures.0 ∙ ap (take header_length) c.bytes-2.ensures.bytes in
    let accepted = ap (λ bytes. check c.args.want (header_of bytes)) (sym header) ∙ ap (check c.args.want) (sym c.read_header.ensures)
    ∙ sym c.check-checked.ensures ∙ c.in-Ok.is in
    good_header c.args.want _ _ c.fill-2.new.self c.use_up.new.self c.in-Ok.form
    (Keeps-trans _ _ _ c.fill.ensures.text c.fill-2.ensures.text)
    (omega (arith, c.in-Some.ensures, ap length c.bytes-2.ensures.bytes)) accepted c.use_up.ensures

pub returns-in-Ok-clause-used : goal.returns-in-Ok-clause-used
returns-in-Ok-clause-used g c =
    let gives = returns-in-Ok-clause-form g c in
    record { bytes = gives.header; is = gives.used }

pub returns-in-Err-clause-input : goal.returns-in-Err-clause-input
returns-in-Err-clause-input g c =
    let header = c.in-Some.ensures.0 ∙ ap (take header_length) c.bytes-2.ensures.bytes in
    let refused = ap (λ bytes. check c.args.want (header_of bytes)) (sym header) ∙ ap (check c.args.want) (sym c.read_header.ensures)
    ∙ sym c.check-checked.ensures ∙ c.in-Err.is in
    rw c.refuse-in-Err.ensures
    (bad_header c.args.want c.args.pages _ _ c.fill-2.new.self c.in-Err.fault
    (Keeps-trans _ _ _ c.fill.ensures.text c.fill-2.ensures.text)
    (omega arith) (omega (arith, c.in-Some.ensures, ap length c.bytes-2.ensures.bytes)) refused)

pub returns-in-Err-clause-used : goal.returns-in-Err-clause-used
returns-in-Err-clause-used g c = uses-none _ _ (Keeps-trans _ _ _ c.fill.ensures.text c.fill-2.ensures.text)

pub returns-in_err-fill-clause-taken : goal.returns-in_err-fill-clause-taken
returns-in_err-fill-clause-taken g c = λ _.
    takes_none c.args.want c.args.pages _ _ c.fill.new.self c.fill.ensures.text c.in_err-fill.ensures.short

pub returns-in_err-fill-2-clause-taken : goal.returns-in_err-fill-2-clause-taken
returns-in_err-fill-2-clause-taken g c = λ _.
    takes_short_header c.args.want c.args.pages _ _ c.fill-2.new.self
    (Keeps-trans _ _ _ c.fill.ensures.text c.fill-2.ensures.text) (omega (arith, c.requires, c.if-pages-eq-MOST_PAGES.false))
    c.in_err-fill-2.ensures.short

pub returns-in_err-fill-clause-short : goal.returns-in_err-fill-clause-short
returns-in_err-fill-clause-short g c = λ _.
    takes_fewer _ _ _ c.fill.new.self c.fill.ensures.text (omega (arith, c.in_err-fill.ensures.short))

pub returns-in_err-fill-2-clause-short : goal.returns-in_err-fill-2-clause-short
returns-in_err-fill-2-clause-short g c = λ _.
    takes_fewer _ _ _ c.fill-2.new.self (Keeps-trans _ _ _ c.fill.ensures.text c.fill-2.ensures.text)
    c.in_err-fill-2.ensures.short
