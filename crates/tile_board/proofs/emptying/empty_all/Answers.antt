use Rattle.std.proofs.Common.{◌≡◌, ◌*◌, refl, ◌∙◌, ap, arith}
use Rattle.tile_shape.specs.Geometry.{bands_of, columns_of}
use Rattle.tile_board.proofs.Emptied.{emptied-items, left-at, left-first}
use Rattle.tile_board.proofs.emptying.empty_all.Goals as goal

pub loop-j-init : goal.loop-j-init
loop-j-init c =
    record {
      left = left-first c.args.shape _ _ _ (omega arith) c.requires.can c.requires.room c.requires.none c.requires.columns;
      items = refl;
    }

pub loop-j-preserved : goal.loop-j-preserved
loop-j-preserved c = record { left = c.empty_band.ensures.after; items = c.empty_band.ensures.items ∙ c.loop-j.invariant.items }

pub free-requires : goal.free-requires
free-requires c = λ k low.
    let s = c.args.shape in
    let ended : c.loop-j.j ≡ bands_of s = let h = c.loop-j-test.false in let e = c.loop-j.auto.j-end in let b = c.bands-j-end.ensures in
    omega arith in
    let all : c.loop-j.j * columns_of s ≡ bands_of s * columns_of s = ap (λ n. n * columns_of s) ended in
    let is = left-at s _ (bands_of s * columns_of s) _ _ all c.loop-j.invariant.left in
    is.empty k (let l = is.len in omega arith)

pub returns : goal.returns
returns c =
    let s = c.args.shape in
    let ended : c.loop-j.j ≡ bands_of s = let h = c.loop-j-test.false in let e = c.loop-j.auto.j-end in let b = c.bands-j-end.ensures in
    omega arith in
    let all : c.loop-j.j * columns_of s ≡ bands_of s * columns_of s = ap (λ n. n * columns_of s) ended in
    emptied-items s _ _ _ _ c.loop-j.invariant.items (left-at s _ (bands_of s * columns_of s) _ _ all c.loop-j.invariant.left).before
