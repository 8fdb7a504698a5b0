use Rattle.std.proofs.Common.{◌≡◌, ℕ, ◌<◌, ◌-◌, ◌≤◌, List, length, drop, sym, ap, ◌∙◌, arith, length-drop, length-take}
use Rattle.std.proofs.lemmas.List.{take_rest, drop-drop}
use Rattle.escp2_definitions.specs.Least.{costs}
use Rattle.escp2_rows.proofs.Writing.{costs_behind, first_on, row_begin, row_end, row_step, table_sized}
use Rattle.escp2_rows.proofs.writer.write_packets.Goals as goal

pub packets-init : goal.packets-init
packets-init c = record { within = omega arith; so_far = row_begin _ _ c.requires.room }

pub write_packet-written-requires-clause-table : goal.write_packet-written-requires-clause-table
write_packet-written-requires-clause-table c =
    take_rest c.args.table.now c.packets.at
    ∙ ap (drop c.packets.at) c.requires.table
    ∙ costs_behind c.args.row.now c.packets.at (omega (arith, c.packets-test.true))
    ∙ ap costs (sym (take_rest c.args.row.now c.packets.at))

pub returns-clause-code : goal.returns-clause-code
returns-clause-code c = row_end _ _ _ _ c.packets.invariant.so_far (omega (arith, length-drop c.packets.at c.args.row.now, c.packets-test.false))

-- the table has an entry for each place
table_room : (row table : List ℕ) (at : ℕ) → table ≡ costs row → at < length row → at ≤ length table
table_room row table at is less = omega (arith, table_sized row table is)

pub slice_bounds-write_packet-count-in-packets : goal.slice_bounds-write_packet-count-in-packets
slice_bounds-write_packet-count-in-packets c = table_room _ _ _ c.requires.table c.packets-test.true

pub slice_bounds-write_packet-start-in-packets : goal.slice_bounds-write_packet-start-in-packets
slice_bounds-write_packet-start-in-packets c = table_room _ _ _ c.requires.table c.packets-test.true

pub packets-preserved : goal.packets-preserved
packets-preserved c =
    let rest = take_rest c.args.row.now c.packets.at in
    let left = length-drop c.packets.at c.args.row.now in
    let written = first_on rest c.write_packet-written.ensures in
    record {
      within = omega (arith, written.within, left, c.packets.invariant.within);
      so_far = row_step c.packets.invariant.so_far (omega (arith, left, c.packets-test.true)) written
          (omega (arith, c.write_packet-written.auto.out, length-drop c.packets.len c.packets.out, length-take (length c.packets.out - c.packets.len) (drop c.packets.len c.packets.out)))
          (sym (drop-drop c.write_packet-written.result.row c.packets.at c.args.row.now));
    }
