use Rattle.std.proofs.Common.{arith}
use Rattle.escp2_rows.proofs.Writing.{literal_shrinks, literal_stays, table_sized}
use Rattle.escp2_rows.proofs.writer.literal_bytes.Goals as goal

pub bounds-table-0 : goal.bounds-table-0
bounds-table-0 c = omega (arith, table_sized c.args.row.now c.args.table.now c.requires.table)

pub counts-init : goal.counts-init
counts-init c = record {
  few = omega (arith, c.min-count.ensures);
  within = omega (arith, c.min-count.ensures);
  longer = λ k more few within. absurd (omega (arith, c.min-count.ensures, more, few, within));
}

pub bounds-table-count : goal.bounds-table-count
bounds-table-count c = omega (arith, table_sized c.args.row.now c.args.table.now c.requires.table, c.counts.invariant.within)

pub bounds-table-count-in-counts : goal.bounds-table-count-in-counts
bounds-table-count-in-counts c = omega (arith, table_sized c.args.row.now c.args.table.now c.requires.table, c.counts.invariant.within)

pub overflow_sub-count-in-counts : goal.overflow_sub-count-in-counts
overflow_sub-count-in-counts c =
    (literal_shrinks _ _ _ _ _ c.requires.table c.requires.alone c.counts.invariant c.from-least.ensures c.from-in-counts.ensures
    (omega (arith, c.counts-test.true, c.from.ensures, c.from-in-counts.ensures))).0

pub counts-smaller : goal.counts-smaller
counts-smaller c =
    omega (
      arith,
      (literal_shrinks _ _ _ _ _ c.requires.table c.requires.alone c.counts.invariant c.from-least.ensures c.from-in-counts.ensures
          (omega (arith, c.counts-test.true, c.from.ensures, c.from-in-counts.ensures))).0,
      c.counts-test.true,
      c.from.ensures,
      c.from-in-counts.ensures,
    )

pub counts-preserved : goal.counts-preserved
counts-preserved c =
    (literal_shrinks _ _ _ _ _ c.requires.table c.requires.alone c.counts.invariant c.from-least.ensures c.from-in-counts.ensures
    (omega (arith, c.counts-test.true, c.from.ensures, c.from-in-counts.ensures))).1

pub returns : goal.returns
returns c = literal_stays _ _ _ _ _ c.requires.table c.requires.alone c.counts.invariant c.from-least.ensures c.from.ensures c.counts-test.false
