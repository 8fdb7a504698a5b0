use Rattle.std.proofs.Common.{refl, arith}
use Rattle.escp2_laws.proofs.Grammar.{AreBytes}
use Rattle.escp2_reader.proofs.Hearing.{heard-fault_used, heard-one_used, on_fault_anyway}
use Rattle.escp2_reader.proofs.RowsHeard.{fault-last, rows-more, rows-whole, rows-wrong}
use Rattle.escp2_reader.proofs.reader.JobReader.feed_rows.Goals as goal

pub returns-in-More-clause-heard : goal.returns-in-More-clause-heard
returns-in-More-clause-heard c =
    let are : AreBytes c.args.piece.now = λ k. omega (arith, c.type_inv.piece k) in
    let more = rw c.in-More.is at c.feed-fed.ensures.more in
    λ sofar stood. rows-more _ sofar c.args.piece.now stood are c.feed-fed.ensures.takes more refl refl refl refl

pub returns-in-Whole-clause-heard : goal.returns-in-Whole-clause-heard
returns-in-Whole-clause-heard c =
    let are : AreBytes c.args.piece.now = λ k. omega (arith, c.type_inv.piece k) in
    let whole = rw c.in-Whole.is at c.feed-fed.ensures.whole in
    let used = c.end_command.ensures.used in
    λ sofar stood. heard-one_used _ _ _ _ c.args.self.now.next _ _ _ sofar c.args.piece.now used c.end_command.ensures.state (omega arith)
    stood.fed stood.bytes are
    (λ rest. rows-whole _ sofar c.args.piece.now rest stood c.feed-fed.ensures.used c.feed-fed.ensures.takes whole)
    c.end_command.ensures.stands c.end_command.ensures.begin c.end_command.ensures.rows

pub returns-in-Fault-clause-heard : goal.returns-in-Fault-clause-heard
returns-in-Fault-clause-heard c =
    let are : AreBytes c.args.piece.now = λ k. omega (arith, c.type_inv.piece k) in
    let fault = rw c.in-Fault.is at c.feed-fed.ensures.fault in
    λ sofar stood. heard-fault_used _ _ _ c.args.self.now.begin c.args.self.now.next _ _ _ sofar c.args.piece.now c.fail.ensures.used
    c.fail.ensures.state c.feed-fed.ensures.used stood.fed stood.bytes are
    (omega arith) (λ rest. rows-wrong _ sofar c.args.piece.now rest stood fault (omega (arith, fault.last)))
    c.fail.ensures.stage c.fail.ensures.begin c.fail.ensures.next

pub returns-in-Fault-clause-last : goal.returns-in-Fault-clause-last
returns-in-Fault-clause-last c =
    let fault = rw c.in-Fault.is at c.feed-fed.ensures.fault in
    on_fault_anyway c.fail.result.state (fault-last c.fail.ensures.used fault)
