use Rattle.std.proofs.Common.{ℕ, ◌+◌, List, take, refl, arith, sym, ap, subst, ◌∙◌}
use Rattle.escp2_definitions.specs.Commands.{command_at}
use Rattle.escp2_laws.proofs.Grammar.{AreBytes}
use Rattle.escp2_reader.specs.Headers.{IsRaster}
use Rattle.escp2_reader.proofs.Hearing.{at-begin, bytes-take, gathered-more, heard-fault, heard-one, on_fault, raster-more, whole-more}
use Rattle.escp2_reader.proofs.Hearing.{wrong-more}
use Rattle.escp2_reader.proofs.reader.JobReader.feed_header.Goals as goal

pub returns-in-Whole-clause-heard : goal.returns-in-Whole-clause-heard
returns-in-Whole-clause-heard c =
    let are : AreBytes c.args.piece.now = λ k. omega (arith, c.type_inv.piece k) in
    λ sofar rows stood. heard-one _ _ _ _ c.args.self.now.next _ _ sofar c.args.piece.now c.end_command.ensures.state (omega arith)
    stood.fed stood.bytes are
    (λ rest. whole-more _ _ _ rest _ _ _
    (gathered-more _ sofar c.args.piece.now _ _ _ _ _ stood.heard c.bytes.invariant.gathered c.push.ensures.items refl c.bytes-test.true
    c.end_command.ensures.used)
    c.push.ensures.items c.bytes.invariant.part (ap command_at (sym c.as_slice.ensures.value) ∙ c.in-Whole.ensures))
    c.end_command.ensures.stands (omega (arith, c.end_command.ensures.begin, c.end_command.ensures.used, c.bytes.invariant.next))
    (c.end_command.ensures.rows ∙ c.bytes.invariant.none)

pub returns-in-Fault-clause-heard : goal.returns-in-Fault-clause-heard
returns-in-Fault-clause-heard c =
    let are : AreBytes c.args.piece.now = λ k. omega (arith, c.type_inv.piece k) in
    λ sofar rows stood. heard-fault _ _ _ c.args.self.now.begin c.args.self.now.next _ _ sofar c.args.piece.now c.fail.ensures.state
    (omega arith) stood.fed stood.bytes are
    (omega (arith, c.bytes.invariant.begin))
    (λ rest. wrong-more _ _ rest _ _ _
    (gathered-more _ sofar c.args.piece.now _ _ _ _ _ stood.heard c.bytes.invariant.gathered c.push.ensures.items refl c.bytes-test.true
    c.fail.ensures.used)
    (ap command_at (sym c.as_slice.ensures.value) ∙ c.in-Fault.ensures) (omega (arith, c.bytes.invariant.begin, c.from.ensures)))
    c.fail.ensures.stage (c.fail.ensures.begin ∙ c.bytes.invariant.begin)
    (omega (arith, c.fail.ensures.next, c.fail.ensures.used, c.bytes.invariant.next))

pub returns-in-Rows-clause-heard : goal.returns-in-Rows-clause-heard
returns-in-Rows-clause-heard c =
    let are : AreBytes c.args.piece.now = λ k. omega (arith, c.type_inv.piece k) in
    let reads : IsRaster c.in-Rows.raster 0 command_at c.push.new.self.items =
    let P : List ℕ → Type 0 = IsRaster c.in-Rows.raster 0 command_at in subst P c.as_slice.ensures.value c.in-Rows.ensures in
    λ sofar rows stood. at-begin _ _ _ _ _ c.bytes.invariant.begin (c.begin_rows.ensures.heard sofar
    (raster-more _ _ _ _ sofar (take (c.bytes.i + 1) c.args.piece.now) _ _
    (gathered-more _ sofar c.args.piece.now _ _ _ _ _ stood.heard c.bytes.invariant.gathered c.push.ensures.items refl
    c.bytes-test.true refl)
    c.push.ensures.items c.bytes.invariant.short reads (omega (arith, stood.fed, c.bytes.invariant.begin, c.bytes.invariant.next))
    stood.bytes (bytes-take _ _ are)))

pub returns-in-Rows-clause-last : goal.returns-in-Rows-clause-last
returns-in-Rows-clause-last c =
    let are : AreBytes c.args.piece.now = λ k. omega (arith, c.type_inv.piece k) in
    let reads : IsRaster c.in-Rows.raster 0 command_at c.push.new.self.items =
    let P : List ℕ → Type 0 = IsRaster c.in-Rows.raster 0 command_at in subst P c.as_slice.ensures.value c.in-Rows.ensures in
    on_fault c.begin_rows.result.state c.begin_rows.ensures.last (λ shows sofar rows stood. shows sofar
    (raster-more _ _ _ _ sofar (take (c.bytes.i + 1) c.args.piece.now) _ _
    (gathered-more _ sofar c.args.piece.now _ _ _ _ _ stood.heard c.bytes.invariant.gathered c.push.ensures.items refl
    c.bytes-test.true refl)
    c.push.ensures.items c.bytes.invariant.short reads (omega (arith, stood.fed, c.bytes.invariant.begin, c.bytes.invariant.next))
    stood.bytes (bytes-take _ _ are)))
