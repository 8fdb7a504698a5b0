use Rattle.std.proofs.Common.{◌≡◌, ◌+◌, ◌*◌, ◌/◌, ◌%◌, ◌-◌, ◌^◌, ◌∙◌, ap, sym, get_or, count_ones, arith, take}
use Rattle.base_definitions.specs.Packed.{bits}
use Rattle.job_lister.proofs.RowBits.{on_count, row_bits, whole_bits}
use Rattle.job_lister.proofs.dots.row_dots.Goals as goal

pub returns-then-rest-eq0-clause-is : goal.returns-then-rest-eq0-clause-is
returns-then-rest-eq0-clause-is c =
    let whole : 8 * (c.args.columns / 8) ≡ c.args.columns = omega arith in
    c.count_dots-sum.ensures.is ∙ sym (ap (λ n. on_count (take n (bits c.args.row.now))) (sym whole)
    ∙ whole_bits c.args.row.now (c.args.columns / 8) (λ k. omega (arith, c.type_inv.row k)) (omega arith))

pub returns-clause-is : goal.returns-clause-is
returns-clause-is c =
    let all : 8 * (c.args.columns / 8) + c.args.columns % 8 ≡ c.args.columns = omega arith in
    ap (λ n. n + count_ones (get_or c.args.row.now (c.args.columns / 8) 0 / 2 ^ (8 - c.args.columns % 8))) c.count_dots-sum.ensures.is
    ∙ sym (ap (λ n. on_count (take n (bits c.args.row.now))) (sym all)
    ∙ row_bits c.args.row.now (c.args.columns / 8) (c.args.columns % 8) (λ k. omega (arith, c.type_inv.row k)) (omega arith)
    (omega arith))
