use Rattle.std.proofs.Common.{◌≡◌, ap, arith, pos, subst, sym, ◌∙◌, to_z, of_z, w32}
use Rattle.std.proofs.lemmas.Int.{ints}
use Rattle.std.specs.Int.{int_div_euclid}
use Rattle.diffusion_definitions.specs.Diffusion.{InRange, divisor}
use Rattle.diffusion_kernel.specs.Tables.{table_of}
use Rattle.plain_diffusion.specs.Fills.{amount_of}
use Rattle.plain_diffusion.proofs.OneMore.{carried_fits, value_is}
use Rattle.plain_diffusion.proofs.pixels.value_at.Goals as goal
use Rattle.plain_diffusion.proofs.pixels.value_at.Goals.{After-mean-carried}

-- what the errors near the pixel give to it, in sixteenths of an amount, and its range
mean_is : (c : After-mean-carried) → c.mean-carried.result ≡ int_div_euclid c.given.result (pos (divisor (table_of c.args.window.now.kernel)))
mean_is c =
    let parts = c.given.ensures.few_parts in
    let kept : to_z w32 (of_z w32 c.given.result) ≡ c.given.result = omega (arith, ints) in
    c.mean-carried.ensures ∙ ap (λ z. int_div_euclid z (pos (divisor (table_of c.args.window.now.kernel)))) kept

carried_in_range : (c : After-mean-carried) → InRange c.mean-carried.result
carried_in_range c = subst InRange (sym (mean_is c))
    (carried_fits c.args.window.now c.args.y c.args.x c.given.result c.given.ensures.is c.given.ensures.fits)

pub overflow_add-result : goal.overflow_add-result
overflow_add-result c =
    let range = carried_in_range (goal.at.overflow_add-result c).After-mean-carried in
    omega (arith, ints, range.low, range.high)

pub returns-clause-is : goal.returns-clause-is
returns-clause-is c =
    let range = carried_in_range (goal.at.returns-clause-is c).After-mean-carried in
    let mean = mean_is (goal.at.returns-clause-is c).After-mean-carried in
    let amount : c.amount_at.result ≡ amount_of c.args.window.now.fill c.args.x c.args.y = c.amount_at.ensures in
    let value = value_is c.args.window.now c.args.y c.args.x c.given.result c.given.ensures.is in
    omega (arith, ints, range.low, range.high, amount, mean, value)

pub returns-clause-low : goal.returns-clause-low
returns-clause-low c =
    let range = carried_in_range (goal.at.returns-clause-low c).After-mean-carried in
    omega (arith, ints, range.low, range.high)

pub returns-clause-high : goal.returns-clause-high
returns-clause-high c =
    let range = carried_in_range (goal.at.returns-clause-high c).After-mean-carried in
    omega (arith, ints, range.low, range.high)
