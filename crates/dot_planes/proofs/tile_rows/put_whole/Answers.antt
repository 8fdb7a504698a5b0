use Rattle.std.proofs.Common.{◌≡◌, ◌<◌, ◌≤◌, ℕ, ◌+◌, ◌-◌, ◌*◌, ◌∙◌, ap, arith, get_or, get_or-set_other, inl, inr, length, refl, set, sym, subst}
use Rattle.std.proofs.lemmas.Bool.{cases_lt}
use Rattle.base_definitions.specs.Packed.{bit_at}
use Rattle.dot_planes.specs.Tiles.{PutsDots}
use Rattle.dot_planes.proofs.RowsOfTiles.{TakesDots, put_all, put_more, put_none, takes_whole}
use Rattle.dot_planes.proofs.tile_rows.put_whole.Goals as goal

pub loop-n-init : goal.loop-n-init
loop-n-init c =
    let start : ℕ = 8 * c.args.c - (c.args.skip + 1) in
    let room : start < length c.args.row.now = omega (
      arith,
      c.requires.row,
      c.requires.right,
      c.requires.left,
      c.requires.lean,
      c.requires.shift,
    ) in
    let first : start + 0 ≡ start = omega arith in
    let next : start + 1 ≡ start + 1 + 0 = omega arith in
    let T : ℕ → Type 0 = λ b. TakesDots c.args.width c.args.c c.args.r b c.args.dots.now (get_or c.args.row.now start 0) c.put_byte.result in
    let Q : ℕ → Type 0 = λ b. PutsDots c.args.width c.args.c c.args.r (8 * b) c.args.dots.now c.args.row.now
    (set c.args.row.now start c.put_byte.result) in
    record {
      dots = subst Q next (put_more c.args.width c.args.c c.args.r start c.put_byte.result c.args.dots.now c.args.row.now c.args.row.now room
          (subst T first (takes_whole c.args.width c.args.c c.args.r 0 c.args.skip c.args.shift c.args.dots.now _ c.put_byte.result
          c.requires.lean c.requires.left c.requires.right c.put_byte.ensures.pixels c.put_byte.ensures.others))
          (put_none c.args.width c.args.c c.args.r c.args.skip c.args.shift start _ _
          (omega (arith, c.requires.shift)) c.requires.lean refl));
      last = λ some. c.moved_row-bytes.ensures.rest;
    }

pub loop-n-preserved : goal.loop-n-preserved
loop-n-preserved c =
    let start : ℕ = 8 * c.args.c - (c.args.skip + 1) in
    let n : ℕ = c.loop-n.n in
    let v : ℕ = get_or c.moved_row-bytes.result n 0 in
    let old : ℕ = get_or c.loop-n.row (start + 1 + n) 0 in
    let room : start + 1 + n < length c.loop-n.row = omega (
      arith,
      c.requires.row,
      c.requires.right,
      c.requires.left,
      c.requires.lean,
      c.requires.shift,
      c.loop-n.invariant.dots.len,
      c.loop-n-test.true,
    ) in
    let place : start + (n + 1) ≡ start + 1 + n = omega arith in
    let next : start + 1 + n + 1 ≡ start + 1 + (n + 1) = omega arith in
    let T : ℕ → Type 0 = λ b. TakesDots c.args.width c.args.c c.args.r b c.args.dots.now old v in
    let Q : ℕ → Type 0 = λ b. PutsDots c.args.width c.args.c c.args.r
    (8 * b) c.args.dots.now c.args.row.now (set c.loop-n.row (start + 1 + n) v) in
    let few : n < 8 = c.loop-n-test.true in
    let kept : (k : ℕ) → k < 8 → (n ≡ 7) → 8 ≤ k + c.args.shift → bit_at v k ≡ bit_at old k = λ k low last past.
    let end : start + 8 ≡ start + 1 + n = omega (arith, last) in
    ap (λ i. bit_at (get_or c.moved_row-bytes.result i 0) k) last
    ∙ c.loop-n.invariant.last few k low past ∙ ap (λ i. bit_at (get_or c.loop-n.row i 0) k) end in
    let takes : TakesDots c.args.width c.args.c c.args.r (start + (n + 1)) c.args.dots.now old v =
    takes_whole c.args.width c.args.c c.args.r (n + 1) c.args.skip c.args.shift c.args.dots.now old v
    c.requires.lean c.requires.left c.requires.right
    (λ k offset low _ inside here. c.moved_row-bytes.ensures.pixels n k offset few low inside (omega (arith, here)))
    (λ k low none. elim (cases_lt (8 * n + c.args.shift + k) 64) [
      | inl inside ↦ absurd (none (8 * n + c.args.shift + k) low inside (omega arith))
      | inr past ↦ kept k low (omega (arith, few, c.requires.shift)) (omega (arith, few, c.requires.shift))
    ]) in
    record {
      dots = subst Q next (put_more c.args.width c.args.c c.args.r (start + 1 + n) v c.args.dots.now c.args.row.now c.loop-n.row room
          (subst T place takes) c.loop-n.invariant.dots);
      last = λ more k low past. c.loop-n.invariant.last few k low past
          ∙ ap (λ b. bit_at b k) (sym (get_or-set_other c.loop-n.row (start + 1 + n) (start + 8) v 0 (omega arith)));
    }

pub returns : goal.returns
returns c =
    put_all c.args.width c.args.c c.args.r c.args.skip c.args.shift ((8 * c.args.c - (c.args.skip + 1)) + 1 + c.loop-n.n)
    ((8 * c.args.c - (c.args.skip + 1)) + 9) c.args.dots.now c.args.row.now c.loop-n.row
    c.requires.lean (inl (omega (arith, c.requires.left)))
    (omega (arith, c.requires.shift)) (omega (arith, c.loop-n-test.false)) c.loop-n.invariant.dots
