use Rattle.std.proofs.Common.{sym}
use Rattle.driver_core.proofs.Printing.ByStream.{capped_ends, faulty_ends, valid_ends}
use Rattle.driver_core.proofs.print.one.print_stream.Goals as goal

pub returns-clause-outcome : goal.returns-clause-outcome
returns-clause-outcome g c = rw (sym c.answer_to.ensures) at c.print_pages-printed.ensures.outcome

pub returns-clause-valid : goal.returns-clause-valid
returns-clause-valid g c =
    valid_ends c.args.how.now.way _ _ _ _ _ c.answer_to.result
    (rw (sym c.answer_to.ensures) at c.print_pages-printed.ensures.outcome).0

pub returns-clause-refused : goal.returns-clause-refused
returns-clause-refused g c =
    faulty_ends c.args.how.now.way _ _ _ _ _ c.answer_to.result
    (rw (sym c.answer_to.ensures) at c.print_pages-printed.ensures.outcome).0

pub returns-clause-capped : goal.returns-clause-capped
returns-clause-capped g c =
    capped_ends c.args.how.now.way _ _ _ _ _ c.answer_to.result
    (rw (sym c.answer_to.ensures) at c.print_pages-printed.ensures.outcome).0
