use Rattle.std.proofs.Common.{◌≡◌, ◌-◌, ◌+◌, ◌*◌, ◌++◌, suc, arith, take, drop, sym, ap, ◌∙◌}
use Rattle.weave_base.proofs.Parting.{on_err_anyway, two_ok, two_part}
use Rattle.escp2_definitions.specs.Commands.{row_bytes}
use Rattle.buffered_bytes.proofs.Writing.{puts_begin, puts_end, puts_more, puts_part}
use Rattle.escp2_writer.proofs.Coding.{codes, codes-next, codes-none, row_left, rows-next}
use Rattle.escp2_writer.proofs.writing.put_coded.Goals as goal

pub rows-init : goal.rows-init
rows-init g c =
    let all : c.args.header.m ≡ c.args.header.m - 0 = omega arith in
    record {
      so_far = puts_begin _ _ _ _ _ (c.push.ensures.is ∙ ap (λ bs. bs ++ c.args.front.now) c.new-bytes.ensures.is)
          (ap (λ m. c.args.front.now ++ codes m (row_bytes c.args.header) c.args.rows.now) all);
      left = c.requires.rows_fit ∙ ap (λ m. m * row_bytes c.args.header) all;
      later = omega arith;
    }

pub split_at-requires : goal.split_at-requires
split_at-requires g c =
    let left : c.args.header.m - c.rows.counter ≡ suc (c.args.header.m - (c.rows.counter + 1)) = omega arith in
    omega (arith, c.row_bytes-width.ensures.is, row_left _ _ _ _ c.rows.invariant.left left)

pub rows-preserved : goal.rows-preserved
rows-preserved g c =
    let left : c.args.header.m - c.rows.counter ≡ suc (c.args.header.m - (c.rows.counter + 1)) = omega arith in
    let row = c.split_at.ensures.front ∙ ap (λ n. take n c.rows.rest.now) c.row_bytes-width.ensures.is in
    let behind = c.split_at.ensures.back ∙ ap (λ n. drop n c.rows.rest.now) c.row_bytes-width.ensures.is in
    record {
      so_far = puts_more c.rows.invariant.so_far c.in_ok-write.ensures.ok
          (codes-next _ _ left row behind ∙ ap (λ bs. bs ++ codes (c.args.header.m - (c.rows.counter + 1))
          (row_bytes c.args.header) c.split_at.result.1.now) (sym c.code_row-len.ensures.code));
      left = rows-next _ _ _ _ _ c.rows.invariant.left left behind;
      later = omega (arith, c.rows.invariant.later, c.in_ok-write.ensures.cause.later);
    }

pub returns-in_err-write-clause-part : goal.returns-in_err-write-clause-part
returns-in_err-write-clause-part g c =
    on_err_anyway _ (puts_part c.rows.invariant.so_far c.in_err-write.ensures.part)

pub returns-clause-ok : goal.returns-clause-ok
returns-clause-ok g c =
    two_ok c.put.result _ _ _ _ c.rows.invariant.so_far.gathers.sent _ (puts_end _ _ _ _ _ c.rows.invariant.so_far (codes-none _ _ _ (omega arith)))
    c.rows.invariant.so_far.gathers.appends c.put.ensures.ok

pub returns-clause-part : goal.returns-clause-part
returns-clause-part g c =
    two_part c.put.result _ _ _ _ c.rows.invariant.so_far.gathers.sent _ (puts_end _ _ _ _ _ c.rows.invariant.so_far (codes-none _ _ _ (omega arith)))
    c.rows.invariant.so_far.gathers.appends c.put.ensures.part
