use Rattle.std.proofs.Common.{◌≡◌, ◌-◌, ◌+◌, ◌*◌, ◌/◌, ◌≤◌, suc, ap, ◌∙◌, sym, arith, vec_capacity, vec_len, Some}
use Rattle.std.specs.List.{slice_get}
use Rattle.printer_definitions.specs.Inks.{inks_of}
use Rattle.printer_definitions.specs.Printer.{Printer}
use Rattle.page_definitions.specs.PageBytes.{page_coding}
use Rattle.page_definitions.specs.Strokes.{raster_header}
use Rattle.page_writer.specs.Heads.{stroke_rows}
use Rattle.page_writer.proofs.Inks.{inks_begin, inks_end, ink_most, inks_room_more, inks_room_one, inks_step, place_is}
use Rattle.page_writer.proofs.stroke.append_inks.Goals as goal

pub inks-init : goal.inks-init
inks-init g c =
    let all : c.args.planes.now.inks - 0 ≡ c.args.planes.now.inks = omega arith in
    record {
      so_far = inks_begin _ _ _ _;
      few = omega arith;
      space = omega (arith, c.requires.space, ap (λ n. n * (12 + 2 * c.args.profile.now.nozzles * ((c.args.planes.now.width + 7) / 8))) all);
      most = omega (arith, ap (λ n. n * (12 + 2 * c.args.profile.now.nozzles * ((c.args.planes.now.width + 7) / 8))) all);
      capacity = omega arith;
    }

pub append_ink-rasters-requires-clause-space : goal.append_ink-rasters-requires-clause-space
append_ink-rasters-requires-clause-space g c =
    let left : c.args.planes.now.inks - c.inks.place ≡ suc (c.args.planes.now.inks - (c.inks.place + 1)) =
    omega (arith, c.inks-test.true, c.inks-place-end.ensures) in
    omega (
      arith,
      ink_most c.args.profile.now _ _ _ c.raster_header-header.ensures c.width.ensures,
      inks_room_one _ _ _ _ _ left c.inks.invariant.space,
    )

pub inks-preserved : goal.inks-preserved
inks-preserved g c =
    let left : c.args.planes.now.inks - c.inks.place ≡ suc (c.args.planes.now.inks - (c.inks.place + 1)) =
    omega (arith, c.inks-test.true, c.inks-place-end.ensures) in
    let taken : vec_len c.append_ink-rasters.new.out
    ≤ vec_len c.inks.out + (12 + 2 * c.args.profile.now.nozzles * ((c.args.planes.now.width + 7) / 8)) =
    omega (
      arith,
      c.append_ink-rasters.ensures.most,
      ink_most c.args.profile.now _ _ _ c.raster_header-header.ensures c.width.ensures,
    ) in
    let ink : slice_get (inks_of c.args.profile.now.inks) c.inks.place ≡ Some c.at-ink.result =
    ap (λ (p : Printer). slice_get (inks_of p.inks) c.inks.place) (sym c.profile.view_is) ∙ c.at-ink.ensures in
    record {
      so_far = inks_step c.raster_header-header.result c.at-ink.result
          (stroke_rows (g.H.Head.strokes c.args.head.now) c.args.planes.now c.args.stroke c.inks.place)
          c.inks.invariant.so_far ink
          (c.raster_header-header.ensures ∙ ap (λ n. raster_header c.args.profile.now n page_coding.c) c.width.ensures)
          (ap (stroke_rows (g.H.Head.strokes c.args.head.now) c.args.planes.now c.args.stroke)
          (place_is c.args.profile.now.inks c.inks.place c.at-ink.result ink))
          c.append_ink-rasters.ensures.items c.append_ink-rasters.ensures.rasters;
      few = omega (arith, c.inks.invariant.few, c.append_ink-rasters.ensures.few);
      space = let space : vec_len c.append_ink-rasters.new.out + (c.args.planes.now.inks - (c.inks.place + 1))
          * (12 + 2 * c.args.profile.now.nozzles * ((c.args.planes.now.width + 7) / 8)) ≤ vec_capacity c.inks.out =
          inks_room_more _ _ _ _ left c.inks.invariant.space taken in omega (arith, space, c.append_ink-rasters.ensures.capacity);
      most = inks_room_more _ _ _ _ left c.inks.invariant.most taken;
      capacity = omega (arith, c.inks.invariant.capacity, c.append_ink-rasters.ensures.capacity);
    }

pub returns-clause-inks : goal.returns-clause-inks
returns-clause-inks g c = inks_end c.inks.invariant.so_far
    (omega (arith, c.requires.suits.inks, c.inks-test.false, c.inks-place-end.ensures))
