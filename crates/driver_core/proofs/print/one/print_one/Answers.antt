use Rattle.driver_core.proofs.print.one.print_one.Goals as goal

pub print_stream-requires-clause-can : goal.print_stream-requires-clause-can
print_stream-requires-clause-can g c κs within = rw c.job_setup-how.ensures c.requires

pub returns-clause-outcome : goal.returns-clause-outcome
returns-clause-outcome g c = rw c.job_setup-how.ensures at c.print_stream.ensures.outcome

pub returns-clause-valid : goal.returns-clause-valid
returns-clause-valid g c = rw c.job_setup-how.ensures at c.print_stream.ensures.valid

pub returns-clause-refused : goal.returns-clause-refused
returns-clause-refused g c = rw c.job_setup-how.ensures at c.print_stream.ensures.refused

pub returns-clause-capped : goal.returns-clause-capped
returns-clause-capped g c = rw c.job_setup-how.ensures at c.print_stream.ensures.capped
