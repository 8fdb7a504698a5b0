use Rattle.std.proofs.Common.{◌≡◌, Bool, true, false, ℕ, List, nat_le, ap, sym, ◌∙◌}
use Rattle.std.specs.Prelude.{None, Some, if◌then◌else◌}
use Rattle.std.specs.List.{list_any}
use Rattle.std.proofs.lemmas.Bool.{or_parts}
use Rattle.escp2_definitions.specs.Machine.{Dot, is_at, overprints}
use Rattle.escp2_definitions.specs.declared.stops.EmulatorFault.TheVariants.{OffSheet, Overprint}
use Rattle.dot_emulator.specs.declared.firing.Raster.{Raster}
use Rattle.dot_emulator.specs.Firing.{Grid, fired, late_fault}
use Rattle.dot_emulator.proofs.RasterDots.{row-some, row-under, seen-all, seen-first, seen-next, some-dot}
use Rattle.dot_emulator.proofs.OverDots.{row-over}
use Rattle.dot_emulator.proofs.firing.Raster.look.Goals as goal

pub loop-i-init : goal.loop-i-init
loop-i-init c = record {
  some = λ g stands. seen-first (λ d. true) g c.args.self.now c.args.rows.now;
  below = λ g stands. seen-first (λ d. nat_le g.bottom d.y) g c.args.self.now c.args.rows.now;
  over = λ g dots stands have none. seen-first (λ d. list_any (is_at d) dots) g c.args.self.now c.args.rows.now;
}

pub loop-i-preserved : goal.loop-i-preserved
loop-i-preserved c =
    let r = c.args.self.now in
    let rows = c.args.rows.now in
    let low = c.loop-i-test.true in
    let seen = c.see-seen.ensures in
    record {
      some = λ g stands. seen-next (λ d. true) g r rows c.loop-i.i _ _ _ stands low (c.loop-i.invariant.some g stands)
          (row-some g r rows c.row.result.now c.loop-i.i c.requires.rows low c.row.ensures.is) seen.some;
      below = λ g stands. seen-next (λ d. nat_le g.bottom d.y) g r rows c.loop-i.i _ _ _ stands low (c.loop-i.invariant.below g stands)
          (row-under g r rows c.row.result.now c.loop-i.i c.row_at.result
          stands c.requires.rows low c.row_at.ensures c.row.ensures.is) seen.below;
      over = λ g dots stands have none.
          let parts = or_parts _ _ (sym seen.below ∙ none) in
          seen-next (λ d. list_any (is_at d) dots) g r rows c.loop-i.i _ _ _ stands low
          (c.loop-i.invariant.over g dots stands have parts.0)
          (row-over g dots c.args.planes.now r rows c.row.result.now c.loop-i.i c.row_at.result
          c.requires.rows low c.requires.height have c.row_at.ensures c.row.ensures.is parts.1) seen.over;
    }

-- why the dots are refused where none is at or below the bottom margin
only-over : (g : Grid) (r : Raster) (rows : List ℕ) (dots : List Dot) (over : Bool)
    → list_any (λ d. nat_le g.bottom d.y) (fired g r rows) ≡ false → overprints dots (fired g r rows) ≡ over
    → late_fault g r rows dots ≡ (if over then Some Overprint else None)
only-over g r rows dots over none is =
    ap (λ b. if b then Some OffSheet else (if overprints dots (fired g r rows) then Some Overprint else None)) none
    ∙ ap (λ b. if b then Some Overprint else None) is

pub returns-then-seen-2 : goal.returns-then-seen-2
returns-then-seen-2 c = λ g dots stands have.
    let r = c.args.self.now in
    let rows = c.args.rows.now in
    only-over g r rows dots true
    (seen-all (λ d. nat_le g.bottom d.y) g r rows c.loop-i.i _ c.loop-i-test.false (c.loop-i.invariant.below g stands) ∙ c.if-seen.false)
    (seen-all (λ d. list_any (is_at d) dots) g r rows c.loop-i.i _ c.loop-i-test.false
    (c.loop-i.invariant.over g dots stands have c.if-seen.false) ∙ c.if-seen-2.true)

pub returns : goal.returns
returns c = λ g dots stands have.
    let r = c.args.self.now in
    let rows = c.args.rows.now in (
      only-over g r rows dots false
          (seen-all (λ d. nat_le g.bottom d.y) g r rows c.loop-i.i _ c.loop-i-test.false (c.loop-i.invariant.below g stands)
          ∙ c.if-seen.false)
          (seen-all (λ d. list_any (is_at d) dots) g r rows c.loop-i.i _ c.loop-i-test.false
          (c.loop-i.invariant.over g dots stands have c.if-seen.false) ∙ c.if-seen-2.false),
      sym (seen-all (λ d. true) g r rows c.loop-i.i _ c.loop-i-test.false (c.loop-i.invariant.some g stands))
          ∙ some-dot (fired g r rows),
    )
