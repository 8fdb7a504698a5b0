use Rattle.std.proofs.Common.{ap, arith, refl, sym, ◌∙◌}
use Rattle.dot_emulator.specs.Pages.{sheet_rows}
use Rattle.dot_emulator.specs.declared.raster.Steps.{Steps}
use Rattle.dot_emulator.proofs.Running.{blank-taken, places-taken}
use Rattle.dot_emulator.proofs.emulator.Emulator.lay.Goals as goal

pub invariant_of-self : goal.invariant_of-self
invariant_of-self c =
    let size = c.lay.ensures.size in
    let taken = c.in_ok-planes.ensures.taken in
    record {
      inks = size.inks ∙ taken.inks;
      width = size.width ∙ taken.width;
      blank = λ ink y x few low past.
          c.lay.ensures.beside ink y x (omega (arith, size.rows)) (omega (arith, c.requires.end))
          ∙ blank-taken c.args.self.now.planes c.in_ok-planes.planes c.args.self.now.state.columns taken.taken
          c.args.self.now.blank ink y x (omega (arith, few, size.inks)) (omega (arith, size.rows)) (omega (arith, c.requires.columns));
      rows = size.rows ∙ taken.height ∙ ap (λ o. sheet_rows o c.args.self.now.steps.row) (sym c.requires.page)
          ∙ ap (λ (s : Steps). sheet_rows c.args.next.page s.row) (sym c.in_ok-planes.ensures.steps);
      spare_inks = c.take_planes.new.self.spare_inks;
      spare_width = c.take_planes.new.self.spare_width;
      spare_blank = c.take_planes.new.self.spare_blank;
    }

pub returns-clause-laid : goal.returns-clause-laid
returns-clause-laid c = λ g dots stands above have. record {
  table = c.lay.new.planes;
  is = refl;
  has = c.lay.ensures.places g dots stands above
      (places-taken g dots c.args.self.now.planes c.in_ok-planes.planes c.in_ok-planes.ensures.taken.inks
      c.in_ok-planes.ensures.taken.taken have);
}
