use Rattle.std.proofs.Common.{sym, arith}
use Rattle.std.proofs.lemmas.List.{length-take-le}
use Rattle.pwg_lines.proofs.Writing.{IsCountedLine, counted_line, scaled}
use Rattle.pwg_lines.proofs.writer.push_packet.Goals as goal

pub overflow_cast-run : goal.overflow_cast-run
overflow_cast-run c =
    let counts : IsCountedLine c.args.unit c.args.line.now = counted_line c.args.unit c.args.line.now c.requires.unit c.requires.whole
    c.requires.some in
    omega (arith, counts.few_equal, c.equal_units-run.ensures)

pub returns-then-run-gt1-clause-within : goal.returns-then-run-gt1-clause-within
returns-then-run-gt1-clause-within c =
    let counts : IsCountedLine c.args.unit c.args.line.now = counted_line c.args.unit c.args.line.now c.requires.unit c.requires.whole
    c.requires.some in
    scaled _ _ c.args.unit _ c.equal_units-run.ensures counts.equal_bytes

pub overflow_sub-first : goal.overflow_sub-first
overflow_sub-first c =
    let counts : IsCountedLine c.args.unit c.args.line.now = counted_line c.args.unit c.args.line.now c.requires.unit c.requires.whole
    c.requires.some in
    omega (arith, counts.few_unequal, c.unequal_units-alone.ensures)

pub overflow_cast-first : goal.overflow_cast-first
overflow_cast-first c =
    let counts : IsCountedLine c.args.unit c.args.line.now = counted_line c.args.unit c.args.line.now c.requires.unit c.requires.whole
    c.requires.some in
    omega (arith, counts.few_unequal, counts.unequal_some, c.unequal_units-alone.ensures, c.equal_units-run.ensures)

pub overflow_mul-alone : goal.overflow_mul-alone
overflow_mul-alone c =
    let counts : IsCountedLine c.args.unit c.args.line.now = counted_line c.args.unit c.args.line.now c.requires.unit c.requires.whole
    c.requires.some in
    omega (arith, scaled _ _ c.args.unit _ c.unequal_units-alone.ensures counts.unequal_bytes)

pub slice_bounds-push_part-end-2 : goal.slice_bounds-push_part-end-2
slice_bounds-push_part-end-2 c =
    let counts : IsCountedLine c.args.unit c.args.line.now = counted_line c.args.unit c.args.line.now c.requires.unit c.requires.whole
    c.requires.some in
    sym (length-take-le _ _ (scaled _ _ c.args.unit _ c.unequal_units-alone.ensures counts.unequal_bytes))

pub returns-clause-some : goal.returns-clause-some
returns-clause-some c =
    let counts : IsCountedLine c.args.unit c.args.line.now = counted_line c.args.unit c.args.line.now c.requires.unit c.requires.whole
    c.requires.some in
    omega (arith, counts.unequal_some, c.unequal_units-alone.ensures, c.equal_units-run.ensures)

pub returns-clause-within : goal.returns-clause-within
returns-clause-within c =
    let counts : IsCountedLine c.args.unit c.args.line.now = counted_line c.args.unit c.args.line.now c.requires.unit c.requires.whole
    c.requires.some in
    scaled _ _ c.args.unit _ c.unequal_units-alone.ensures counts.unequal_bytes
