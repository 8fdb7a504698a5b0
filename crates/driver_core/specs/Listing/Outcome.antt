-- The outcome of listing a job.
use Rattle.std.specs.Prelude.{◌≡◌, ℕ}
use Rattle.driver_answer.specs.declared.answer.Answer.{Answer}
use Rattle.driver_answer.specs.declared.answer.Answer.TheVariants as answer
use Rattle.job_lister.specs.Outcome.{ListsAll, ListsPart, ListsTaken, ListsToStop}
use Rattle.driver_core.specs.Outside.{HasRisen, Outside}

-- What was listed of a job of at most `most` bytes, by the answer. A failed write is in no page.
abbrev pub ListOutcome : ℕ → Outside → Outside → Answer → Type 0
ListOutcome most input out answer.Done = ListsAll most input out
ListOutcome most input out (answer.Job offset cause) = ListsToStop most input out offset cause
ListOutcome most input out answer.Read = HasRisen input × ListsTaken most input out
ListOutcome most input out (answer.Write page) = (page ≡ 0) × HasRisen out × ListsPart most input out
ListOutcome most input out answer.Memory = ListsTaken most input out
ListOutcome most input out other = ⊥
