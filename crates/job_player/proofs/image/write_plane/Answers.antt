use Rattle.std.proofs.Common.{◌≡◌, ◌-◌, ◌+◌, ◌/◌, ◌++◌, take, ap, arith, sym, ◌∙◌}
use Rattle.std.proofs.lemmas.List.{length-take-le}
use Rattle.weave_base.proofs.Parting.{on_err_anyway, two_ok, two_part}
use Rattle.buffered_bytes.proofs.Writing.{puts_begin, puts_end, puts_more, puts_part}
use Rattle.job_player.specs.Images.{image_header, image_rows}
use Rattle.job_player.proofs.Rows.{cut-row, row-long, rows-next, rows-none}
use Rattle.job_player.proofs.image.write_plane.Goals as goal

pub rows-init : goal.rows-init
rows-init g c =
    let s = c.args.sheet.now in
    let all : s.rows ≡ s.rows - 0 = omega arith in
    record {
      so_far = puts_begin _ _ _ _ _ c.header-bytes.ensures
          (ap (λ n. image_header s.columns s.rows ++ image_rows s.columns s.planes c.args.ink 0 n) all);
      later = omega arith;
    }

pub slice_bounds-write-end : goal.slice_bounds-write-end
slice_bounds-write-end g c = sym (length-take-le _ c.row.result.now
    (row-long c.args.sheet.now.planes c.args.ink c.rows.y c.args.sheet.now.columns c.row.result.now
    (omega (arith, c.args.sheet.now.most, c.args.sheet.now.width)) c.row.ensures))

pub rows-preserved : goal.rows-preserved
rows-preserved g c =
    let s = c.args.sheet.now in
    let row = ap (take ((s.columns + 7) / 8)) c.row.ensures ∙ cut-row s.planes c.args.ink c.rows.y s.columns (omega (arith, s.most, s.width))
    (omega (arith, s.inks)) (omega (arith, s.height)) s.blank in
    record {
      so_far = puts_more c.rows.invariant.so_far c.in_ok-write.ensures.ok
          (rows-next s.columns s.planes c.args.ink c.rows.y (s.rows - c.rows.y) (s.rows - (c.rows.y + 1)) (omega arith)
          ∙ ap (λ bs. bs ++ image_rows s.columns s.planes c.args.ink (c.rows.y + 1) (s.rows - (c.rows.y + 1))) (sym row));
      later = omega (arith, c.rows.invariant.later, c.in_ok-write.ensures.cause.later);
    }

pub returns-in_err-write-clause-part : goal.returns-in_err-write-clause-part
returns-in_err-write-clause-part g c = on_err_anyway _ (puts_part c.rows.invariant.so_far c.in_err-write.ensures.part)

pub returns-clause-ok : goal.returns-clause-ok
returns-clause-ok g c = two_ok c.put.result _ _ _ _ c.rows.invariant.so_far.gathers.sent _
    (puts_end _ _ _ _ _ c.rows.invariant.so_far (rows-none c.args.sheet.now.columns
    c.args.sheet.now.planes c.args.ink c.rows.y _ (omega arith))) c.rows.invariant.so_far.gathers.appends c.put.ensures.ok

pub returns-clause-part : goal.returns-clause-part
returns-clause-part g c = two_part c.put.result _ _ _ _ c.rows.invariant.so_far.gathers.sent _
    (puts_end _ _ _ _ _ c.rows.invariant.so_far (rows-none c.args.sheet.now.columns
    c.args.sheet.now.planes c.args.ink c.rows.y _ (omega arith))) c.rows.invariant.so_far.gathers.appends c.put.ensures.part
