use Rattle.std.proofs.Common.{arith, ap, length, length-append}
use Rattle.pwg_lines.specs.Reading.{form_of}
use Rattle.pwg_laws.proofs.KindRows.{kind_row}
use Rattle.pwg_stream.proofs.Grouping.{group_begin, group_ends, group_fed, group_refused, group_turn, group_whole, uses_fed, uses_kept}
use Rattle.pwg_stream.proofs.Taken.{all_fed, takes_part}
use Rattle.buffered_bytes.proofs.Texts.{text_fed}
use Rattle.pwg_stream.proofs.groups.read_group.Goals as goal

pub returns-in-Line-clause-line : goal.returns-in-Line-clause-line
returns-in-Line-clause-line g c =
    let line = rw c.bytes.ensures.bytes at (rw c.in-Line.is at c.feed-fed.ensures.line) in
    group_whole c.pieces.invariant.group line
    (text_fed (g.S.Source.left c.pieces.source) c.pieces.unread c.use_up.new.self c.feed-fed.result.used c.use_up.ensures)

pub returns-in-Line-clause-used : goal.returns-in-Line-clause-used
returns-in-Line-clause-used g c =
    uses_fed _ c.pieces.invariant.group
    (text_fed (g.S.Source.left c.pieces.source) c.pieces.unread c.use_up.new.self c.feed-fed.result.used c.use_up.ensures)

pub returns-in-Fault-clause-input : goal.returns-in-Fault-clause-input
returns-in-Fault-clause-input g c =
    let fault = rw c.bytes.ensures.bytes at (rw c.in-Fault.is at c.feed-fed.ensures.fault) in
    group_refused _ c.pieces.invariant.group fault
    (text_fed (g.S.Source.left c.pieces.source) c.pieces.unread c.use_up.new.self c.feed-fed.result.used c.use_up.ensures)

pub returns-in-Fault-clause-used : goal.returns-in-Fault-clause-used
returns-in-Fault-clause-used g c =
    uses_fed _ c.pieces.invariant.group
    (text_fed (g.S.Source.left c.pieces.source) c.pieces.unread c.use_up.new.self c.feed-fed.result.used c.use_up.ensures)

pub returns-in-Err-clause-used : goal.returns-in-Err-clause-used
returns-in-Err-clause-used g c =
    uses_kept _ _ c.pieces.invariant.group
    (text_fed (g.S.Source.left c.pieces.source) c.pieces.unread c.use_up.new.self c.feed-fed.result.used c.use_up.ensures)
    c.more.ensures.text

pub returns-in-Ok-eq0-clause-used : goal.returns-in-Ok-eq0-clause-used
returns-in-Ok-eq0-clause-used g c =
    uses_kept _ _ c.pieces.invariant.group
    (text_fed (g.S.Source.left c.pieces.source) c.pieces.unread c.use_up.new.self c.feed-fed.result.used c.use_up.ensures)
    c.more.ensures.text

pub pieces-preserved : goal.pieces-preserved
pieces-preserved g c =
    let more = rw c.bytes.ensures.bytes at (rw c.in-More.is at c.feed-fed.ensures.more) in
    let fed = group_fed c.pieces.invariant.group more c.feed-fed.ensures.form
    (rw c.bytes.ensures.bytes at c.bytes.ensures.are)
    (text_fed (g.S.Source.left c.pieces.source) c.pieces.unread c.use_up.new.self c.feed-fed.result.used c.use_up.ensures) in
    let grown = c.in-Ok.ensures.grown in
    record {
      group = group_turn _ fed c.more.ensures.text
          (omega (arith, grown.long, ap length grown.is, length-append c.use_up.new.self grown.chunk, c.in-Ok.field-0-test));
      later = omega (arith, c.pieces.invariant.later, c.more.ensures.cause.later);
    }

pub unreachable-requires : goal.unreachable-requires
unreachable-requires g c =
    group_ends (length c.line.result.now) c.pieces.invariant.group (kind_row (form_of c.args.lines.now).kind).some
    (omega (arith, c.line.ensures.sized, c.args.lines.now.whole, c.args.lines.now.sized)) c.pieces-test.false

pub pieces-init : goal.pieces-init
pieces-init g c = record {
  group = group_begin c.args.lines.now _ c.args.unread.now c.requires;
  later = omega arith;
}

pub returns-in-Err-clause-part : goal.returns-in-Err-clause-part
returns-in-Err-clause-part g c = λ _.
    let more = rw c.bytes.ensures.bytes at (rw c.in-More.is at c.feed-fed.ensures.more) in
    let fed = group_fed c.pieces.invariant.group more c.feed-fed.ensures.form
    (rw c.bytes.ensures.bytes at c.bytes.ensures.are)
    (text_fed (g.S.Source.left c.pieces.source) c.pieces.unread c.use_up.new.self c.feed-fed.result.used c.use_up.ensures) in
    takes_part _ c.more.new.self fed.0 c.more.ensures.text
    (all_fed c.pieces.unread c.use_up.new.self c.more.new.self c.feed-fed.result.used (omega (arith, more.all)) c.use_up.ensures
    c.in-Err.ensures.same)
