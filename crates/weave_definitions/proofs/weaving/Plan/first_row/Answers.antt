use Rattle.std.proofs.Common.{◌≡◌, ℕ, ◌+◌, ◌-◌, ◌*◌, ◌/◌, ◌<◌, ◌≤◌, ap, arith}
use Rattle.std.proofs.Math.Nat.{mul-le-mul, mul-le-mul_right}
use Rattle.base_definitions.specs.Limits.{most_rows}
use Rattle.weave_definitions.specs.Weave.{pass_count}
use Rattle.weave_definitions.specs.Weaving.{Weaving}
use Rattle.weave_definitions.proofs.weaving.Plan.first_row.Goals as goal

-- the first nozzle is never as far down as the head is long and the window is high
begins_low : (n pitch height pass : ℕ) → 1 ≤ n → n ≤ 255 → pitch ≤ 255 → height ≤ most_rows → pass < pass_count n pitch height
    → pass * n ≤ 80864
begins_low n pitch height pass some few near tall less =
    let all : ℕ = height + (n - 1) * pitch + (n - 1) in
    let head : (n - 1) * pitch ≤ 254 * 255 = mul-le-mul (let most : n - 1 ≤ 254 = omega arith in most) near in
    let product : pass * n ≤ all / n * n = mul-le-mul_right n (omega arith) in
    omega (arith, head, product)

pub overflow_mul-result : goal.overflow_mul-result
overflow_mul-result c =
    let nozzles = ap (λ (v : Weaving). v.nozzles) c.self.view_is in
    let pitch = ap (λ (v : Weaving). v.pitch) c.self.view_is in
    let height = ap (λ (v : Weaving). v.height) c.self.view_is in
    let v : Weaving = c.args.self.now in
    let low : c.args.pass * v.nozzles ≤ 80864 =
    begins_low v.nozzles v.pitch v.height c.args.pass (omega (arith, nozzles, c.self.invariant.some_nozzles))
    (omega (arith, nozzles, c.self.invariant.most_nozzles)) (omega (arith, pitch, c.self.invariant.most_pitch))
    (omega (arith, height, c.self.invariant.most_rows)) c.requires in
    let same : c.from.result ≡ v.nozzles = omega (arith, nozzles, c.from.ensures) in
    omega (arith, low, ap (λ n. c.args.pass * n) same)
