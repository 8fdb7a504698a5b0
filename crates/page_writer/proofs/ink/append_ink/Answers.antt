use Rattle.std.proofs.Common.{◌≡◌, ◌-◌, ◌+◌, ◌*◌, ◌/◌, ◌≤◌, ◌++◌, suc, ap, ◌∙◌, sym, arith, append_assoc, vec_capacity, vec_len}
use Rattle.escp2_definitions.specs.Commands.{command_bytes}
use Rattle.escp2_definitions.specs.declared.command.Command.TheVariants as c
use Rattle.page_writer.specs.Heads.{stroke_rows}
use Rattle.page_writer.proofs.Fires.{none_counted, none_fired, one_counted, room_more, room_one, rows_begin, rows_end, rows_step}
use Rattle.page_writer.proofs.ink.append_ink.Goals as goal

pub rows-init : goal.rows-init
rows-init g k =
    let all : k.args.header.m - 0 ≡ k.args.header.m = omega arith in
    record {
      so_far = rows_begin _ _ k.args.header k.args.ink k.args.out.now.items _ _
          (λ nozzle. k.requires.over.wide k.args.stroke k.args.place nozzle ∙ sym k.requires.columns)
          (sym k.has_fire.ensures ∙ k.if-not-has_fire.false) k.requires.coded k.requires.nozzles (all ∙ k.requires.nozzles)
          (k.append_header-3.ensures.items ∙ ap (λ bs. bs ++ command_bytes (c.Raster k.args.header))
          (k.append_header-2.ensures.items ∙ ap (λ bs. bs ++ command_bytes c.Return) k.append_header.ensures.items)
          ∙ ap (λ bs. bs ++ command_bytes (c.Raster k.args.header))
          (append_assoc k.args.out.now.items (command_bytes (c.Colour k.args.ink)) (command_bytes c.Return))
          ∙ append_assoc k.args.out.now.items
          (command_bytes (c.Colour k.args.ink) ++ command_bytes c.Return) (command_bytes (c.Raster k.args.header)));
      space = omega (
        arith,
        k.requires.space,
        k.append_header.ensures.len,
        k.append_header-2.ensures.len,
        k.append_header-3.ensures.len,
        k.append_header.ensures.capacity,
        k.append_header-2.ensures.capacity,
        k.append_header-3.ensures.capacity,
        ap (λ n. 2 * n * ((k.args.header.n + 7) / 8)) all,
      );
      most = omega (
        arith,
        k.append_header.ensures.len,
        k.append_header-2.ensures.len,
        k.append_header-3.ensures.len,
        ap (λ n. 2 * n * ((k.args.header.n + 7) / 8)) all,
      );
      capacity = omega (arith, k.append_header.ensures.capacity, k.append_header-2.ensures.capacity, k.append_header-3.ensures.capacity);
    }

pub append_fired-requires-clause-space : goal.append_fired-requires-clause-space
append_fired-requires-clause-space g k =
    let left : k.args.header.m - k.rows.nozzle ≡ suc (k.args.header.m - (k.rows.nozzle + 1)) = omega arith in
    omega (arith, ap (λ n. (n + 7) / 8) k.requires.columns, room_one _ _ _ _ _ left k.rows.invariant.space)

pub rows-preserved : goal.rows-preserved
rows-preserved g k =
    let left : k.args.header.m - k.rows.nozzle ≡ suc (k.args.header.m - (k.rows.nozzle + 1)) = omega arith in
    let taken : vec_len k.append_fired.new.out ≤ vec_len k.rows.out + 2 * ((k.args.header.n + 7) / 8) =
    omega (arith, k.append_fired.ensures.most, ap (λ n. (n + 7) / 8) k.requires.columns) in
    record {
      so_far = rows_step k.rows.invariant.so_far left k.append_fired.ensures.items;
      space = let space : vec_len k.append_fired.new.out
          + 2 * (k.args.header.m - (k.rows.nozzle + 1)) * ((k.args.header.n + 7) / 8) ≤ vec_capacity k.rows.out =
          room_more _ _ _ _ left k.rows.invariant.space taken in
          omega (arith, space, k.append_fired.ensures.capacity);
      most = room_more _ _ _ _ left k.rows.invariant.most taken;
      capacity = omega (arith, k.rows.invariant.capacity, k.append_fired.ensures.capacity);
    }

pub returns-then-not-has_fire-clause-items : goal.returns-then-not-has_fire-clause-items
returns-then-not-has_fire-clause-items g k =
    none_fired k.args.header k.args.ink (stroke_rows (g.H.Head.strokes k.args.head.now) k.args.planes.now k.args.stroke k.args.place) _
    (sym k.has_fire.ensures ∙ k.if-not-has_fire.true)

pub returns-clause-items : goal.returns-clause-items
returns-clause-items g k =
    let none : k.args.header.m - k.rows.nozzle ≡ 0 = omega arith in
    rows_end _ _ _ _ _ k.rows.invariant.so_far none

pub returns-then-not-has_fire-clause-rasters : goal.returns-then-not-has_fire-clause-rasters
returns-then-not-has_fire-clause-rasters g k =
    none_counted k.args.header k.args.ink (stroke_rows (g.H.Head.strokes k.args.head.now) k.args.planes.now k.args.stroke k.args.place)
    (sym k.has_fire.ensures ∙ k.if-not-has_fire.true)

pub returns-clause-rasters : goal.returns-clause-rasters
returns-clause-rasters g k =
    one_counted k.args.header k.args.ink (stroke_rows (g.H.Head.strokes k.args.head.now) k.args.planes.now k.args.stroke k.args.place)
    (sym k.has_fire.ensures ∙ k.if-not-has_fire.false)
