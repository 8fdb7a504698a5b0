use Rattle.std.proofs.Common.{◌≡◌, ◌+◌, ◌-◌, ◌<◌, suc, subst, sym, ◌∙◌, arith, length, List, Option, ℕ}
use Rattle.dead_nozzles.specs.Plans.{is_free, owner}
use Rattle.dead_nozzles.proofs.Firing.{over}
use Rattle.dead_nozzles.proofs.Taking.{TakenSoFar, live-none, live-some, taken-skip, taken-step}
use Rattle.dead_nozzles.proofs.owners.take_rows.Goals as goal

pub nozzles-preserved-in_default : goal.nozzles-preserved-in_default
nozzles-preserved-in_default c =
    let left : c.args.head.now.nozzles - c.nozzles.nozzle ≡ suc (c.args.head.now.nozzles - (c.nozzles.nozzle + 1)) =
    omega (arith, c.nozzles-test.true, c.nozzles-nozzle-end.ensures) in
    taken-skip c.nozzles.invariant left
    (live-none c.args.head.now (λ y. is_free (owner c.args.owners.now y)) c.args.start c.nozzles.nozzle (sym c.in_default.is ∙ c.live_row.ensures))

pub nozzles-preserved : goal.nozzles-preserved
nozzles-preserved c =
    let left : c.args.head.now.nozzles - c.nozzles.nozzle ≡ suc (c.args.head.now.nozzles - (c.nozzles.nozzle + 1)) =
    omega (arith, c.nozzles-test.true, c.nozzles-nozzle-end.ensures) in
    let live = live-some c.args.head.now c.args.start c.nozzles.nozzle c.in-Some.row c.in-Some.ensures in
    let o = over c.args.head.now c.args.start c.nozzles.nozzle c.in-Some.row live.1 in
    subst (λ (owners : List (Option ℕ)). TakenSoFar c.args.head.now c.args.start c.args.owners.now owners (c.nozzles.nozzle + 1)
    (c.args.head.now.nozzles - (c.nozzles.nozzle + 1))) (sym c.take_row.ensures)
    (taken-step c.in-Some.row c.nozzles.invariant left live.0 live.1
    (let low : c.in-Some.row < length c.nozzles.owners = omega (arith, o.low, c.nozzles.invariant.rows, c.requires.rows) in low))
