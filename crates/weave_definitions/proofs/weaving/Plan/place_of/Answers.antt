use Rattle.std.proofs.Common.{ap, arith}
use Rattle.weave_definitions.specs.Weaving.{Weaving}
use Rattle.weave_definitions.proofs.Rows.{Counts, place-fires, place-only}
use Rattle.weave_definitions.proofs.weaving.Plan.place_of.Goals as goal

-- what the code has read is the plan's
counts : (c : goal.After-from-2)
    → Counts c.args.self.now.nozzles c.args.self.now.pitch c.from-nozzles.result c.from-2.result c.from.result c.head_rows.result
counts c = record {
  round_is = omega (arith, c.from-nozzles.ensures, ap (λ (v : Weaving). v.nozzles) c.self.view_is);
  step_is = omega (arith, c.from-2.ensures, ap (λ (v : Weaving). v.pitch) c.self.view_is);
  first_is = c.head_rows.ensures;
  some = omega arith;
  inverse_is = cc;
}

pub returns-clause-fires : goal.returns-clause-fires
returns-clause-fires c = place-fires _ _ c.args.self.now.height _ _ _ _ _ (counts c) c.requires

pub returns-clause-only : goal.returns-clause-only
returns-clause-only c = λ t i low e. place-only _ _ c.args.self.now.height _ _ _ _ _ t i (counts c) low e
