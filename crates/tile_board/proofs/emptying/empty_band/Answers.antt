use Rattle.std.proofs.Common.{◌≡◌, ℕ, ◌+◌, ◌*◌, ◌<◌, refl, sym, ◌∙◌, ap, arith}
use Rattle.tile_shape.specs.Geometry.{IsTile, bands_of, columns_of}
use Rattle.tile_shape.specs.declared.tiles.Place.{Place}
use Rattle.tile_board.proofs.Emptied.{left-at, takes-more}
use Rattle.board_core.proofs.Numbers.{number_below, row_more}
use Rattle.tile_board.proofs.Numbers.{few-tiles}
use Rattle.tile_board.proofs.emptying.empty_band.Goals as goal

pub loop-c-init : goal.loop-c-init
loop-c-init c = record { left = left-at _ _ _ _ _ (omega arith) c.requires.before; items = refl }

pub empty_tile-requires : goal.empty_tile-requires
empty_tile-requires c =
    let s = c.args.shape in
    let tile : IsTile s (record { c = c.loop-c.c; j = c.args.j }) =
    record { column = let h = c.loop-c-test.true in let k = c.columns-columns.ensures in omega arith; band = c.requires.band } in
    let same : c.args.j * c.columns-columns.result + c.loop-c.c ≡ c.args.j * columns_of s + c.loop-c.c =
    ap (λ n. c.args.j * n + c.loop-c.c) c.columns-columns.ensures in
    let below = number_below s (record { c = c.loop-c.c; j = c.args.j }) tile in
    let few = few-tiles s c.requires.shape in
    let is = left-at s _ (c.args.j * c.columns-columns.result + c.loop-c.c) _ _ (sym same) c.loop-c.invariant.left in
    let t : ℕ = c.args.j * c.columns-columns.result + c.loop-c.c in
    let u : ℕ = c.args.j * columns_of s + c.loop-c.c in
    let all : ℕ = bands_of s * columns_of s in
    let inside : t < all = let a : t ≡ u = same in let b : u < all = below in omega arith in
    record {
      few = let a : all < 4294967296 = few in omega arith;
      slots = let l = is.len in omega arith;
      full = is.full;
      dots = is.dots t inside;
      room = let r = is.room in let n = is.before.count in omega arith;
      column = let k = is.before.columns in let h = tile.column in omega arith;
    }

pub loop-c-preserved : goal.loop-c-preserved
loop-c-preserved c =
    let s = c.args.shape in
    let p : Place = record { c = c.loop-c.c; j = c.args.j } in
    let tile : IsTile s p =
    record { column = let h = c.loop-c-test.true in let k = c.columns-columns.ensures in omega arith; band = c.requires.band } in
    let t : ℕ = c.args.j * c.columns-columns.result + c.loop-c.c in
    let same : t ≡ c.args.j * columns_of s + c.loop-c.c = ap (λ n. c.args.j * n + c.loop-c.c) c.columns-columns.ensures in
    let is = left-at s _ t _ _ (sym same) c.loop-c.invariant.left in
    let u : ℕ = c.args.j * columns_of s in
    let more : t + 1 ≡ u + (c.loop-c.c + 1) = let a : t ≡ u + c.loop-c.c = same in omega arith in
    record {
      left = left-at s (t + 1) _ _ _ more (takes-more s p t _ _ _ _ tile same is c.empty_tile.ensures);
      items = c.empty_tile.ensures.items ∙ c.loop-c.invariant.items;
    }

pub returns-clause-after : goal.returns-clause-after
returns-clause-after c =
    let s = c.args.shape in
    let u : ℕ = c.args.j * columns_of s in
    let w : ℕ = (c.args.j + 1) * columns_of s in
    let C : ℕ = columns_of s in
    let row : w ≡ u + C = row_more C c.args.j in
    let ended : c.loop-c.c ≡ C = let h = c.loop-c-test.false in let k = c.columns-columns.ensures in let e = c.loop-c.auto.c-end in
    omega arith in
    left-at s (u + c.loop-c.c) w _ _ (omega arith) c.loop-c.invariant.left

pub returns-clause-items : goal.returns-clause-items
returns-clause-items c = c.loop-c.invariant.items
