use Rattle.std.proofs.Common.{◌+◌, ◌∙◌, arith, subst, sym, refl}
use Rattle.dot_planes.specs.Tables.{DotTable, HasSizeOf}
use Rattle.dot_emulator.specs.Sheets.{IsKeptFrom}
use Rattle.dot_emulator.proofs.RasterDots.{above-first, above-next}
use Rattle.dot_emulator.proofs.OverDots.{LaidSoFar, laid-all, laid-first, laid-next, laid-none, lays-past}
use Rattle.dot_emulator.proofs.firing.Raster.lay.Goals as goal
use Rattle.dot_emulator.proofs.firing.Raster.lay.Goals.{then-y-self, else-y-self}

pub loop-i-init : goal.loop-i-init
loop-i-init c = record {
  size = record { width = refl; rows = refl; inks = refl };
  beside = λ ink y x low past. refl;
  above = λ g stands above. above-first g c.args.self.now c.args.rows.now above;
  laid = λ g dots stands above has. laid-first g c.args.self.now c.args.rows.now dots c.args.planes.now has;
}

pub loop-i-preserved : goal.loop-i-preserved
loop-i-preserved c =
    let old : DotTable = c.args.planes.now in
    let S : DotTable → Type 0 = λ t. HasSizeOf old t in
    record {
      size = elim c.if-y-self.branch [
        | then-y-self w ↦
            let size = w.lay.ensures.size in
            let before = c.loop-i.invariant.size in
            subst S (sym w.planes-is) (record {
              width = size.width ∙ before.width;
              rows = size.rows ∙ before.rows;
              inks = size.inks ∙ before.inks;
            })
        | else-y-self w ↦ subst S (sym w.planes-is) c.loop-i.invariant.size
      ];
      beside =
          let B : DotTable → Type 0 = IsKeptFrom (c.args.self.now.x + c.args.self.now.header.n) old in
          elim c.if-y-self.branch [
            | then-y-self w ↦ subst B (sym w.planes-is) (λ ink y x low past.
                lays-past c.loop-i.planes w.lay.new.self _ _ c.args.self.now.x _ c.from-dots.result ink y
                x w.lay.ensures (omega (arith, c.loop-i.invariant.size.rows)) (omega (arith, c.from-dots.ensures))
                ∙ c.loop-i.invariant.beside ink y x low past)
            | else-y-self w ↦ subst B (sym w.planes-is) c.loop-i.invariant.beside
          ];
      above = λ g stands above. (above-next g c.args.self.now c.args.rows.now c.loop-i.i stands c.loop-i-test.true
          (c.loop-i.invariant.above g stands above)).later;
      laid = λ g dots stands above has.
          let L : DotTable → Type 0 = λ t. LaidSoFar g c.args.self.now c.args.rows.now (c.loop-i.i + 1) dots t in
          let so_far = c.loop-i.invariant.laid g dots stands above has in
          elim c.if-y-self.branch [
            | then-y-self w ↦ subst L (sym w.planes-is)
                (laid-next g c.args.self.now c.args.rows.now c.loop-i.i dots c.loop-i.planes
                w.lay.new.self c.plane_of-ink.result c.row_at-y.result c.from-dots.result w.row.result.now
                stands c.requires.rows c.loop-i-test.true so_far
                (record {
                  plane_is = c.plane_of-ink.ensures.is;
                  down = c.row_at-y.ensures;
                  wide = c.from-dots.ensures;
                  bytes_are = w.row.ensures.is;
                })
                w.lay.ensures)
            | else-y-self w ↦ subst L (sym w.planes-is)
                (laid-none g c.args.self.now c.args.rows.now c.loop-i.i dots c.loop-i.planes
                stands c.requires.rows c.loop-i-test.true (c.loop-i.invariant.above g stands above)
                (omega (arith, c.row_at-y.ensures, w.if-y-self.false)) so_far)
          ];
    }

pub returns-clause-places : goal.returns-clause-places
returns-clause-places c = λ g dots stands above has.
    laid-all g c.args.self.now c.args.rows.now c.loop-i.i dots c.loop-i.planes c.loop-i-test.false
    (c.loop-i.invariant.laid g dots stands above has)
