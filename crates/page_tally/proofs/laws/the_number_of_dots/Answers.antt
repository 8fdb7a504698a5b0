use Rattle.page_tally.proofs.Following.{cut-line, job-follows, job-state}
use Rattle.page_tally.proofs.laws.the_number_of_dots.Goals as goal

pub returns-clause-state : goal.returns-clause-state
returns-clause-state c = job-state

pub returns-clause-sheets : goal.returns-clause-sheets
returns-clause-sheets c = λ p entries none. (job-follows p entries none).sheets

pub returns-clause-counts : goal.returns-clause-counts
returns-clause-counts c = λ p entries none. (job-follows p entries none).counts

pub returns-clause-cut : goal.returns-clause-cut
returns-clause-cut c = cut-line
