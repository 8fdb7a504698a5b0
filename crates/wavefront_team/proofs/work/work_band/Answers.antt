use Rattle.std.proofs.Common.{◌≡◌, ℕ, ◌+◌, ◌*◌, ◌<◌, ◌≤◌, ap, arith, ◌∙◌, subst, sym}
use Rattle.board_core.proofs.Numbers.{row_more}
use Rattle.tile_board.specs.Board.{slab, view}
use Rattle.tile_board.specs.Slabs.{number_in, shape_of}
use Rattle.tile_board.specs.declared.kinds.Pass.{Pass}
use Rattle.board_steps.specs.Rule.{times}
use Rattle.board_steps.specs.declared.rule.Slab.{Slab}
use Rattle.board_steps.specs.declared.rule.View.{View}
use Rattle.tile_shape.specs.Geometry.{columns_of}
use Rattle.tile_shape.specs.declared.tiles.Place.{Place}
use Rattle.tile_shape.specs.declared.tiles.Shape.{Shape}
use Rattle.wavefront_team.specs.Passes.{Desk, HasAll, desk}
use Rattle.wavefront_team.proofs.Passes.{lacks_none, posted_after, posted_more}
use Rattle.wavefront_team.proofs.work.work_band.Goals as goal
use Rattle.wavefront_team.proofs.work.work_band.Goals.{in-Got, in-Gone}

pub unreachable-requires : goal.unreachable-requires
unreachable-requires g c =
    lacks_none (slab c.args.board.now) (view c.loop-c.pass) (record { c = c.loop-c.c; j = c.args.j }) c.in-NotReady.word
    c.in-NotReady.ensures.claim.2 c.loop-c.invariant.posted

pub loop-c-preserved : goal.loop-c-preserved
loop-c-preserved g c =
    let b : Desk = desk c.args.board.now in
    let s : Slab = b.slab in
    let t : Place = record { c = c.loop-c.c; j = c.args.j } in
    let n : ℕ = number_in s t in
    let u : ℕ = c.args.j * columns_of (shape_of s) in
    let low_in : (k : ℕ) → k < u + (c.loop-c.c + 1) → k < u + c.loop-c.c + 1 = λ k low. omega arith in
    let A : Pass → Type 0 = λ q. HasAll b q in
    let T : ℕ → Pass → Type 0 = λ k q. 1 ≤ times k (view q).mine in
    elim c.match-claim.branch [
      | in-Got w ↦
          let told = w.in-Got.ensures.claim in
          let is = w.work_held.ensures.view in
          let number : number_in s w.in-Got.task.place ≡ n = ap (number_in s) told.1 in
          record {
            pass = subst A (sym w.pass-is) (
              w.work_held.ensures.pass,
              ap (λ (v : View). v.held) is,
              ap (λ (v : View). v.parts) is ∙ told.0.kept.parts ∙ c.loop-c.invariant.pass.2,
            );
            posted = λ k low. subst (T k) (sym w.pass-is)
                (posted_after (view c.loop-c.pass) (view c.claim.new.p) (view w.work_held.new.pass) (number_in s w.in-Got.task.place) n
                is told.0.kept.mine number c.loop-c.invariant.posted k (low_in k low));
          }
      | in-Gone w ↦
          let told = w.in-Gone.ensures.claim in
          record {
            pass = subst A (sym w.pass-is) (c.claim.ensures.pass, told.0.held, told.0.kept.parts ∙ c.loop-c.invariant.pass.2);
            posted = λ k low. subst (T k) (sym w.pass-is)
                (posted_more (view c.loop-c.pass) (view c.claim.new.p) n told.0.kept.mine
                (let once = told.2 c.loop-c.invariant.pass.2 in omega arith) c.loop-c.invariant.posted k (low_in k low));
          }
    ]

pub returns-clause-posted : goal.returns-clause-posted
returns-clause-posted g c = λ t low.
    let C : ℕ = columns_of (shape_of (slab c.args.board.now)) in
    let j : ℕ = c.args.j in
    let more = row_more C j in
    let u : ℕ = j * C in
    let w : ℕ = (j + 1) * C in
    let more' : w ≡ u + C = more in
    let n : ℕ = c.loop-c.c in
    let all : n ≡ C = omega (arith, c.columns-c-end.ensures ∙ ap (λ (s : Shape). columns_of s) c.requires.shape) in
    let low' : t < w + 0 = low in
    let inside : t < u + n = omega arith in
    c.loop-c.invariant.posted t inside
