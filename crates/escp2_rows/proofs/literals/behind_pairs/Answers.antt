use Rattle.std.proofs.Common.{◌≡◌, drop, arith, ap}
use Rattle.std.proofs.lemmas.List.{take_rest}
use Rattle.escp2_definitions.specs.Least.{equal_at}
use Rattle.escp2_laws.proofs.Fewest.{equal_is}
use Rattle.escp2_rows.proofs.Passing.{level_begin, level_more, run, run_within}
use Rattle.escp2_rows.proofs.literals.behind_pairs.Goals as goal

two : (c : goal.In-pairs) → run c.args.row.now c.pairs.at ≡ 2
two c =
    omega (
      arith,
      c.is_pair.ensures c.pairs-test.true,
      ap equal_at (take_rest c.args.row.now c.pairs.at),
      equal_is (drop c.pairs.at c.args.row.now),
    )

pub pairs-init : goal.pairs-init
pairs-init c = level_begin _ _ c.requires

pub pairs-smaller : goal.pairs-smaller
pairs-smaller c = omega (arith, two c, run_within c.args.row.now c.pairs.at c.pairs.invariant.within)

pub pairs-preserved : goal.pairs-preserved
pairs-preserved c = level_more c.pairs.invariant (two c)
