use Rattle.std.proofs.Common.{◌-◌, length, drop, sym, ap, ◌∙◌, arith, length-drop, length-take}
use Rattle.std.proofs.lemmas.List.{take_rest, drop-drop}
use Rattle.escp2_definitions.specs.Least.{least_row}
use Rattle.escp2_rows.proofs.Writing.{first_on, row_begin, row_end, row_rest, row_step}
use Rattle.escp2_rows.proofs.writer.code_row.Goals as goal

pub packets-init : goal.packets-init
packets-init c = record { within = omega arith; so_far = row_begin _ _ c.requires.room }

pub returns-in_default-clause-code : goal.returns-in_default-clause-code
returns-in_default-clause-code c =
    let rest = take_rest c.args.row.now c.packets.at in
    row_rest _ _ _ _ _ _ _ c.packets.invariant.so_far (omega (arith, length-drop c.packets.at c.args.row.now, c.packets-test.true))
    (c.write_by_costs.ensures.code ∙ ap least_row rest)

pub packets-preserved : goal.packets-preserved
packets-preserved c =
    let rest = take_rest c.args.row.now c.packets.at in
    let left = length-drop c.packets.at c.args.row.now in
    let written = first_on rest c.in-Some.ensures in
    record {
      within = omega (arith, written.within, left, c.packets.invariant.within);
      so_far = row_step c.packets.invariant.so_far (omega (arith, left, c.packets-test.true)) written
          (omega (arith, c.write_front.auto.out, length-drop c.packets.len c.packets.out, length-take (length c.packets.out - c.packets.len) (drop c.packets.len c.packets.out)))
          (sym (drop-drop c.in-Some.written.row c.packets.at c.args.row.now));
    }

pub returns-clause-code : goal.returns-clause-code
returns-clause-code c = row_end _ _ _ _ c.packets.invariant.so_far (omega (arith, length-drop c.packets.at c.args.row.now, c.packets-test.false))
