-- The worked job gives one sheet.
use Rattle.std.proofs.Common.{◌≡◌, ℕ, List, arith, subst}
use Rattle.escp2_laws.specs.Examples.{listing, three_nozzles}
use Rattle.job_player.specs.declared.counting.JobCounter.{JobCounter}
use Rattle.job_player.specs.Counting.{IsBetweenPages, TakesPage}
use Rattle.page_definitions.specs.Dots.{Halftone, halftone, wanted}
use Rattle.page_definitions.specs.PageBytes.{halftone_bytes, page_bytes, page_coding, weave}
use Rattle.page_definitions.specs.Printing.{GivesSheet}
use Rattle.page_laws.specs.Examples.{by_floyd, six_rows}
use Rattle.page_laws.specs.Sized.{Sized}
use Rattle.page_laws.proofs.Headline.{page-coded}
use Rattle.page_laws.proofs.Printed.{strokes-print}
use Rattle.page_laws.proofs.Weaving.{weave-fires}
use Rattle.page_laws.proofs.Worked.{three-can}

-- its page
abbrev tiny_page : Halftone
tiny_page = halftone six_rows three_nozzles by_floyd

sized : Sized three_nozzles tiny_page 6
sized = record {
  some_width = omega arith;
  most_width = omega arith;
  some_height = omega arith;
  low = omega arith;
  short = omega arith;
}

pub tiny_gives : page_bytes six_rows three_nozzles by_floyd ≡ listing
    → GivesSheet three_nozzles listing (wanted six_rows three_nozzles by_floyd)
unfolding page_bytes halftone_bytes
tiny_gives same =
    let P : List ℕ → Type 0 = λ bytes. GivesSheet three_nozzles bytes (wanted six_rows three_nozzles by_floyd) in
    subst P same (strokes-print three_nozzles tiny_page
    page_coding (weave three_nozzles tiny_page) 6 three-can page-coded sized (weave-fires three_nozzles tiny_page three-can))

-- a counter takes it between pages
pub takes_tiny : (counter : JobCounter) → page_bytes six_rows three_nozzles by_floyd ≡ listing → IsBetweenPages three_nozzles counter
    → TakesPage counter listing
takes_tiny counter same between = record {
  printer = three_nozzles;
  dots = wanted six_rows three_nozzles by_floyd;
  between = between;
  gives = tiny_gives same;
}
