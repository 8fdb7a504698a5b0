use Rattle.page_halftoner.proofs.Lines.{at_top, own_grain}
use Rattle.page_halftoner.proofs.halftoner.Halftoner.begin.Goals as goal

pub returns-clause-stands : goal.returns-clause-stands
returns-clause-stands c =
    at_top _ c.in_ok-filler.ensures.none.0 c.in_ok-filler.ensures.none.1
    (own_grain _ _ _ _ c.in_ok-filler.ensures.page.0 c.in_ok-diffuser.ensures.grain) c.in_ok-diffuser.ensures.top c.in_ok-diffuser.ensures.blank
