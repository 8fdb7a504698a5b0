use Rattle.std.proofs.Common.{sym, ◌∙◌, arith}
use Rattle.std.proofs.lemmas.List.{length-take-le}
use Rattle.pwg_lines.proofs.Filling.{copies_more, fewer, first_unit, more_within}
use Rattle.pwg_lines.proofs.buffer.repeat_unit.Goals as goal

pub slice_bounds-copy_from_slice-end : goal.slice_bounds-copy_from_slice-end
slice_bounds-copy_from_slice-end c =
    more_within c.args.count c.args.unit c.doublings.times _ _ (omega arith) (omega arith)

pub slice_bounds-copy_from_slice-end-in-doublings : goal.slice_bounds-copy_from_slice-end-in-doublings
slice_bounds-copy_from_slice-end-in-doublings c =
    sym (length-take-le _ _ (more_within c.args.count c.args.unit c.doublings.times c.min-more.result _ (omega arith) (omega arith)))

pub copy_from_slice-requires : goal.copy_from_slice-requires
copy_from_slice-requires c =
    length-take-le _ _ (more_within c.args.count c.args.unit c.doublings.times c.min-more.result _ (omega arith) (omega arith))
    ∙ sym (length-take-le _ _
    (fewer c.args.unit c.min-more.result c.doublings.times _ (omega arith) c.split_at_mut-front.ensures.front_len))

pub doublings-preserved : goal.doublings-preserved
doublings-preserved c = record {
  some = omega arith;
  most = omega arith;
  so_far =
      copies_more c.doublings.times c.min-more.result c.args.unit _ _ _ _
      (first_unit c.args.count c.args.unit c.args.bytes.now c.requires.some c.requires.whole)
      (c.split_at_mut-front.ensures.front ∙ c.doublings.invariant.so_far) (omega arith) (c.copy_from_slice.ensures.after);
}
