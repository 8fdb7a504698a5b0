use Rattle.std.proofs.Common.{◌++◌, ◌∙◌, ℕ, ap, replicate, subst, sym}
use Rattle.diffusion_kernel.specs.Tables.{table_of}
use Rattle.dot_planes.specs.Tables.{AmountTable}
use Rattle.grained_rows.specs.Grained.{grained_table}
use Rattle.raw_rows.specs.Raw.{table_of as amounts_of}
use Rattle.separation_definitions.specs.declared.window.Window.{Window}
use Rattle.wavefront_team.specs.Slabs.{DiffusesSlab}
use Rattle.wavefront_team.specs.SoFar.{dots_in}
use Rattle.page_halftoner.specs.Halftones.{Diffusing, Filling, Halftoning, StandsFor}
use Rattle.page_halftoner.proofs.Lines.{IsDone, same_window, slab_full}
use Rattle.page_halftoner.proofs.halftoner.Halftoner.put.Goals as goal

pub returns-in_ok-diffuse_beside-clause-stands : goal.returns-in_ok-diffuse_beside-clause-stands
returns-in_ok-diffuse_beside-clause-stands g c = λ lines stands.
    let f : Filling = c.put-taken.new.self in
    let d : Diffusing = c.self.inside.diffuser in
    let done : Diffusing = c.diffuse_beside.new.self in
    let told = c.in_ok-diffuse_beside.ensures in
    let Done : ℕ → AmountTable → Type 0 = λ first slab.
    DiffusesSlab (table_of d.kernel) (grained_table d.grain first slab) d.top done.top first (dots_in d.dots) (dots_in done.dots) in
    let S : AmountTable → Type 0 = λ slab. Done f.first slab in
    let F : ℕ → Type 0 = λ first. Done first (amounts_of c.slab-slab.result.now) in
    let all : IsDone f c.go_on.new.self d done = record {
      full = c.is_full.ensures.full.0 c.if-is_full.true;
      rows = c.is_full.ensures.rows;
      tall = c.self.invariant.planes.rows
          ∙ ap (λ (w : Window). w.height) (sym (same_window c.self.inside.filler f c.put-taken.ensures.page));
      goes_on = c.go_on.ensures;
      kernel = told.kernel;
      grain = told.grain;
      diffused = subst S c.slab-slab.ensures (subst F c.first-first.ensures told.slab);
    } in
    let Q : Halftoning → Type 0 = λ h. StandsFor h lines in
    slab_full f c.go_on.new.self d done all (lines ++ replicate c.put-taken.result c.args.line.now)
    (c.put-taken.ensures.lines d lines (subst Q (sym c.self.view_is) stands))

pub returns-else-is_full-clause-stands : goal.returns-else-is_full-clause-stands
returns-else-is_full-clause-stands g c = λ lines stands.
    let Q : Halftoning → Type 0 = λ h. StandsFor h lines in
    c.put-taken.ensures.lines c.self.inside.diffuser lines (subst Q (sym c.self.view_is) stands)
