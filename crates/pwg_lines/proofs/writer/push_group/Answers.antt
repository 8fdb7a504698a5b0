use Rattle.std.proofs.Common.{◌<◌, ◌*◌, length, sym, ◌∙◌, arith, length-drop}
use Rattle.std.proofs.lemmas.Bool.{eqb-false, eqb-true}
use Rattle.std.proofs.lemmas.List.{take_all}
use Rattle.pwg_lines.proofs.Writing.{group_begin, group_end, group_step, whole_units}
use Rattle.pwg_lines.proofs.writer.push_group.Goals as goal

pub packets-init : goal.packets-init
packets-init c = record {
  group = group_begin c.args.unit c.args.more c.args.line.now _ _ c.requires.unit c.requires.whole c.in_ok-push.ensures.items;
  capacity = omega (arith, c.in_ok-push.ensures.capacity);
  short = omega (arith, c.in_ok-push.ensures.len);
}

pub overflow_mul-rest : goal.overflow_mul-rest
overflow_mul-rest c = omega (arith, c.in_ok-units.ensures.within)

pub packets-preserved : goal.packets-preserved
packets-preserved c =
    let some : 0 < length c.packets.rest.now = omega (arith, eqb-false _ _ (sym c.is_empty.ensures ∙ c.packets-test.true)) in
    record {
      group = group_step c.args.unit c.args.more c.args.line.now _ _ c.packets.rest.now _ _ c.in_ok-units.units c.requires.unit
          c.packets.invariant.group some
          c.in_ok-units.ensures.ok c.in_ok-units.ensures.units c.in_ok-units.ensures.some c.in_ok-units.ensures.within
          (take_all _ _ (omega (arith, length-drop (c.in_ok-units.units * c.args.unit) c.packets.rest.now)));
      capacity = omega (arith, c.in_ok-units.ensures.capacity, c.packets.invariant.capacity);
      short = grind arith;
    }

pub returns-clause-ok : goal.returns-clause-ok
returns-clause-ok c = group_end c.args.unit c.args.more c.args.line.now _ _ c.packets.rest.now c.packets.invariant.group
    (eqb-true _ _ (sym c.is_empty.ensures ∙ c.packets-test.false))

pub push_packet-requires-clause-whole : goal.push_packet-requires-clause-whole
push_packet-requires-clause-whole c = whole_units c.packets.invariant.group.units c.args.unit _ c.packets.invariant.group.whole
