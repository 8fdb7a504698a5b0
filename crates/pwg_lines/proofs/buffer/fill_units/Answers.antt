use Rattle.std.proofs.Common.{refl, arith}
use Rattle.pwg_lines.proofs.Filling.{byte_behind, byte_filled, units_behind, units_filled}
use Rattle.pwg_lines.proofs.buffer.fill_units.Goals as goal

pub returns-in-0-len1-clause-filled : goal.returns-in-0-len1-clause-filled
returns-in-0-len1-clause-filled c =
    byte_filled c.args.filled c.args.read c.args.count c.args.line.now c.args.others.now c.fill.new.self _ c.in-0-len1.is-0
    c.in-0-len1.len_at_least
    c.in-0-len1.len_below c.requires.fits (c.fill.ensures.after (λ y e. e))

pub returns-in-0-len1-clause-behind : goal.returns-in-0-len1-clause-behind
returns-in-0-len1-clause-behind c =
    byte_behind c.args.filled c.args.read c.args.count _ c.args.line.now c.args.others.now c.fill.new.self _ c.in-0-len1.is-0
    c.in-0-len1.len_at_least
    c.in-0-len1.len_below c.requires.fits (c.fill.ensures.after (λ y e. e)) (omega arith) (omega arith)

pub returns-clause-filled : goal.returns-clause-filled
returns-clause-filled c =
    units_filled c.args.filled c.args.read c.args.count _ c.args.line.now c.args.others.now c.copy_from_slice.new.self _
    c.repeat_unit.new.bytes _ _
    c.requires.some c.requires.fits (omega arith) c.copy_from_slice.ensures.after refl c.repeat_unit.ensures

pub returns-clause-behind : goal.returns-clause-behind
returns-clause-behind c =
    units_behind c.args.filled c.args.read c.args.count _ c.args.line.now c.args.others.now c.copy_from_slice.new.self _
    c.repeat_unit.new.bytes _ _
    c.requires.some c.requires.fits (omega arith) c.copy_from_slice.ensures.after refl c.repeat_unit.ensures (omega arith)
    (omega arith)
