use Rattle.std.proofs.Common.{◌≡◌, ◌≤◌, ◌<◌, ◌⊎◌, ℕ, ◌+◌, ◌-◌, ◌*◌, arith, inl, inr, length}
use Rattle.std.proofs.lemmas.Bool.{cases_lt}
use Rattle.dot_planes.proofs.RowsOfTiles.{put_all, put_more, put_none, takes_dots}
use Rattle.dot_planes.proofs.tile_rows.put_cut.Goals as goal

pub loop-b-init : goal.loop-b-init
loop-b-init c = grind (arith, put_none)

pub loop-b-preserved : goal.loop-b-preserved
loop-b-preserved c =
    let after : 8 * c.args.c ≤ c.loop-b.b + c.args.skip + 1 = omega (arith, c.saturating_sub-start.ensures, c.loop-b.auto.b) in
    let room : c.loop-b.b < length c.loop-b.row = omega (arith, c.min-end.ensures, c.loop-b.invariant.dots.len) in
    record {
      dots = put_more c.args.width c.args.c c.args.r c.loop-b.b c.put_byte.result c.args.dots.now c.args.row.now c.loop-b.row room
          (takes_dots c.args.width c.args.c c.args.r c.loop-b.b c.args.skip c.args.shift c.args.dots.now
          _ c.put_byte.result c.requires.lean after c.put_byte.ensures.pixels c.put_byte.ensures.others)
          c.loop-b.invariant.dots;
    }

pub returns : goal.returns
returns c =
    let end : ℕ = c.min-end.result in
    let tile : ℕ = 8 * c.args.c + 8 - c.args.skip in
    let last : (end ≡ tile) ⊎ (c.args.width ≤ 8 * end) = elim (cases_lt tile (length c.args.row.now)) [
      | inl inside ↦ inl (omega (arith, c.min-end.ensures))
      | inr past ↦ inr (omega (arith, c.min-end.ensures, c.requires.row))
    ] in
    put_all c.args.width c.args.c c.args.r c.args.skip c.args.shift c.loop-b.b end c.args.dots.now
    c.args.row.now c.loop-b.row c.requires.lean last (omega arith) c.loop-b-test.false c.loop-b.invariant.dots
