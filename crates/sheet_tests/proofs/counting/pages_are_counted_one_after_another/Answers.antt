use Rattle.std.proofs.Common.{arith}
use Rattle.escp2_laws.specs.Examples.{three_nozzles}
use Rattle.page_definitions.specs.Dots.{wanted}
use Rattle.page_laws.specs.Examples.{by_floyd, six_rows}
use Rattle.sheet_tests.proofs.TinyJob.{takes_tiny, tiny_gives}
use Rattle.sheet_tests.proofs.counting.pages_are_counted_one_after_another.Goals as goal

pub execute_page-requires-clause-page : goal.execute_page-requires-clause-page
execute_page-requires-clause-page g c = takes_tiny _ c.tiny_prints_ninety_two_bytes.ensures.bytes c.make-counter.ensures.between

pub execute_page-end-requires-clause-room : goal.execute_page-end-requires-clause-room
execute_page-end-requires-clause-room g c =
    let counted = c.in_ok-execute_page.ensures three_nozzles (wanted six_rows three_nozzles by_floyd) c.make-counter.ensures.between
    (tiny_gives c.tiny_prints_ninety_two_bytes.ensures.bytes) in
    omega (arith, counted.sheets, c.make-counter.ensures.sheets)

pub execute_page-end-requires-clause-page : goal.execute_page-end-requires-clause-page
execute_page-end-requires-clause-page g c =
    let counted = c.in_ok-execute_page.ensures three_nozzles (wanted six_rows three_nozzles by_floyd) c.make-counter.ensures.between
    (tiny_gives c.tiny_prints_ninety_two_bytes.ensures.bytes) in
    takes_tiny _ c.tiny_prints_ninety_two_bytes.ensures.bytes counted.between
