use Rattle.std.proofs.Common.{◌≡◌, ◌∙◌, ap, false, sym, subst}
use Rattle.dot_planes.specs.Tables.{dot}
use Rattle.page_definitions.specs.Dots.{HasDots, halftone}
use Rattle.page_halftoner.specs.Halftones.{Halftoning, StandsFor}
use Rattle.page_halftoner.specs.Kept.{halftoning}
use Rattle.page_halftoner.specs.Screenings.{screening_of}
use Rattle.page_halftoner.proofs.Lines.{all_diffused, whole_page}
use Rattle.page_halftoner.proofs.halftoner.Halftoner.finish.Goals as goal

pub returns : goal.returns
returns c = λ lines stands.
    let h : Halftoning = halftoning c.self.inside in
    let v = c.self.invariant in
    let Q : Halftoning → Type 0 = λ g. StandsFor g lines in
    let count : h.count ≡ h.form.height = ap (λ (g : Halftoning). g.count) c.self.view_is
    ∙ c.requires.count ∙ ap (λ (g : Halftoning). g.form.height) (sym c.self.view_is) in
    let working : h.failed ≡ false = ap (λ (g : Halftoning). g.failed) c.self.view_is ∙ c.requires.working in
    let dots = whole_page h lines c.finish.result (subst Q (sym c.self.view_is) stands)
    (all_diffused c.self.inside.filler v.rows (v.room working) count) v.planes c.finish.ensures.size c.finish.ensures.dots in
    let R : Halftoning → Type 0 =
    λ g. HasDots g.profile (halftone (record { form = g.form; lines = lines })
    g.profile (screening_of g.kernel g.grain.grain)) c.finish.result.width c.finish.result.rows c.finish.result.inks (dot c.finish.result) in
    subst R c.self.view_is dots
