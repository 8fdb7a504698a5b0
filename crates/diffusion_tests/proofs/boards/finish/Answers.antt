use Rattle.std.proofs.Common.{◌≡◌, ℕ, ◌+◌, ◌*◌, ◌/◌, ◌%◌, ◌<◌, ◌≤◌, ◌∙◌, sym, ap, ap₂, inl, inr, arith, subst, div-add-mod'}
use Rattle.std.proofs.lemmas.Bool.{cases_lt}
use Rattle.board_steps.specs.Rule.{times}
use Rattle.tile_shape.specs.Geometry.{bands_of, columns_of}
use Rattle.tile_shape.specs.declared.tiles.Place.{Place}
use Rattle.tile_shape.specs.declared.tiles.Shape.{Shape}
use Rattle.tile_board.specs.Board.{slab, view}
use Rattle.tile_board.specs.Slabs.{number_in, shape_of}
use Rattle.board_core.proofs.Numbers.{number_below}
use Rattle.diffusion_tests.proofs.boards.finish.Goals as goal

pub loop-n-preserved : goal.loop-n-preserved
loop-n-preserved c =
    let b = slab c.args.board.now in
    let n : ℕ = c.loop-n.n in
    let r : ℕ = c.columns-columns.result in
    let here : Place = record { c = n % r; j = n / r } in
    let wide : r ≡ columns_of (shape_of b) = c.columns-columns.ensures ∙ ap (λ (s : Shape). columns_of s) c.requires.shape in
    let number : number_in b here ≡ n = ap (λ k. n / r * k + n % r) (sym wide) ∙ div-add-mod' n r in
    let Q : ℕ → Type 0 = λ k. 1 ≤ times k (view c.has_posted.new.p).mine in
    let now : 1 ≤ times n (view c.has_posted.new.p).mine =
    subst Q number (c.has_posted.ensures.posted c.if-not-has_posted.false c.loop-n.invariant.alone) in
    record {
      pass = c.has_posted.ensures.pass;
      idle = c.has_posted.ensures.idle;
      alone = c.has_posted.ensures.parts ∙ c.loop-n.invariant.alone;
      posted = λ t tile low. elim (cases_lt (number_in b t) n) [
        | inl before ↦
            let old = c.loop-n.invariant.posted t tile before in
            let more = c.has_posted.ensures.more (number_in b t) in
            let x : ℕ = times (number_in b t) (view c.loop-n.p).mine in
            let y : ℕ = times (number_in b t) (view c.has_posted.new.p).mine in
            let old' : 1 ≤ x = old in
            let more' : x ≤ y = more in
            let answer : 1 ≤ y = omega arith in
            answer
        | inr not_before ↦ let is : number_in b t ≡ n = omega arith in subst Q (sym is) now
      ];
    }

pub returns-clause-all : goal.returns-clause-all
returns-clause-all c = λ yes t tile.
    let b = slab c.args.board.now in
    let all : c.bands.result * c.columns-columns.result ≡ bands_of (shape_of b) * columns_of (shape_of b) =
    ap₂ (λ m n. m * n) (c.bands.ensures ∙ ap (λ (s : Shape). bands_of s) c.requires.shape)
    (c.columns-columns.ensures ∙ ap (λ (s : Shape). columns_of s) c.requires.shape) in
    let x : ℕ = c.bands.result * c.columns-columns.result in
    let y : ℕ = bands_of (shape_of b) * columns_of (shape_of b) in
    let all' : x ≡ y = all in
    let end : x ≤ c.loop-n.n = c.loop-n-test.false in
    let below : number_in b t < y = number_below (shape_of b) t tile in
    c.loop-n.invariant.posted t tile (omega arith)
