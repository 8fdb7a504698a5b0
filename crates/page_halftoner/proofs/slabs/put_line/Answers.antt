use Rattle.std.proofs.Common.{◌-◌, ◌∙◌, ap, arith, length}
use Rattle.std.proofs.lemmas.Option.{slice_get_within}
use Rattle.printer_definitions.specs.Inks.{inks_of}
use Rattle.page_halftoner.proofs.Lines.{same_size}
use Rattle.page_halftoner.proofs.slabs.put_line.Goals as goal

pub returns-then-y-gt0-clause-takes : goal.returns-then-y-gt0-clause-takes
returns-then-y-gt0-clause-takes c = λ p kind w is above. record {
  size = same_size c.args.slab.now c.repeat_line.new.self c.repeat_line.ensures.rows c.repeat_line.ensures.separator;
  row = record {
    are = λ i ink at x low.
        c.repeat_line.ensures.line.row i (c.args.y - 1) x
        (omega (arith, ap (λ set. length (inks_of set)) is.inks, slice_get_within (inks_of p.inks) i ink at)) (omega arith)
        (omega (arith, ap (λ window. window.width) is.window_is, low))
        ∙ (above c.if-again.true (c.args.y - 1) (omega arith)).are i ink at x low;
  };
  above = c.repeat_line.ensures.line.above;
}

pub returns-else-again-clause-takes : goal.returns-else-again-clause-takes
returns-else-again-clause-takes c = λ p kind w is above. record {
  size = same_size c.args.slab.now c.put_line.new.self c.put_line.ensures.rows c.put_line.ensures.separator;
  row = c.put_line.ensures.line p kind w is;
  above = c.put_line.ensures.above;
}
