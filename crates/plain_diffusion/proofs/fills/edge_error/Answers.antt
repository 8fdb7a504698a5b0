use Rattle.std.proofs.Common.{◌≡◌, ◌≤◌, ◌<◌, ◌+◌, ◌*◌, ◌/◌, ℤ, ap, arith, cond, pos, sym, ◌∙◌, to_z, of_z, w16}
use Rattle.std.proofs.lemmas.Bool.{le-ltb, lt-ltb}
use Rattle.std.proofs.lemmas.Int.{ints}
use Rattle.plain_diffusion.proofs.fills.edge_error.Goals as goal
use Rattle.plain_diffusion.proofs.fills.edge_error.Goals.{then-x-left-via-then-x-left, then-x-left-via-else-x-left+then-from-left}

pub returns-then-x-left-clause-is : goal.returns-then-x-left-clause-is
returns-then-x-left-clause-is c = λ t n row column.
    let e : ℤ = c.args.error in
    let far : 64 * ((c.args.width + 125) / 64) ≤ n + 56 + 2 * t = elim c.then-x-left.branch [
      | then-x-left-via-then-x-left w ↦ omega (arith, ints)
      | then-x-left-via-else-x-left+then-from-left w ↦ omega (arith, ints)
    ] in
    sym (ap (λ b. cond b e (pos 0)) (le-ltb (n + 56 + 2 * t) (64 * ((c.args.width + 125) / 64)) far))

pub returns-clause-is : goal.returns-clause-is
returns-clause-is c = λ t n row column.
    let e : ℤ = c.args.error in
    let kept : to_z w16 (of_z w16 e) ≡ e = omega (arith, ints) in
    let near : n + 56 + 2 * t < 64 * ((c.args.width + 125) / 64) = omega (arith, ints) in
    kept ∙ sym (ap (λ b. cond b e (pos 0)) (lt-ltb (n + 56 + 2 * t) (64 * ((c.args.width + 125) / 64)) near))
