use Rattle.separation_definitions.specs.Windows.{wanted_by}
use Rattle.halftone_reader.proofs.HalftoneSteps.{begun-wanted}
use Rattle.stage_bench.proofs.stages.next_page.Goals as goal

pub window-window-requires : goal.window-window-requires
window-window-requires g c =
    let begins = rw (c.in-Some.is, c.wanted.ensures) at c.in_ok-form.ensures.page in
    begun-wanted (wanted_by c.args.profile.now) c.args.reader.now c.next_page.new.self _ _ c.in-Some.form begins
