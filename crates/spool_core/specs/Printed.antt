-- The jobs of a spool that were printed, one after another, and what was done of each.
use Rattle.std.specs.Prelude.{◌≡◌, ℕ, List, [], ◌∷◌, ◌++◌, Option, Some}
use Rattle.page_definitions.specs.Dots.{Screening}
use Rattle.driver_answer.specs.Answers.{status_of}
use Rattle.driver_answer.specs.declared.answer.Answer.{Answer}
use Rattle.driver_core.specs.Outside.{IsCalm, Meters, Outside}
use Rattle.driver_core.specs.Printing.Outcome.{PrintedOutcome}
use Rattle.ink_meter.specs.Accounts.{Account}
use Rattle.page_definitions.specs.declared.way.Way.TheVariants.{Woven}
use Rattle.printer_definitions.specs.Printer.{Printer}
use Rattle.spool_queue.specs.Jobs.{AreSent, Stream, sent_by}
use Rattle.spool_queue.specs.declared.job.SpoolJob.{SpoolJob}
use Rattle.spool_core.specs.declared.report.Ran.{Ran}

-- The output and the meters between two jobs: the bytes that the sink took, where it reports them, its count of faults,
-- and the meters' accounts.
pub record Between : Type 0 where
  pub held : Option (List ℕ)
  pub faults : ℕ
  pub accounts : List Account

abbrev pub out_from : Between → Between → Outside
out_from a b = record { before = a.held; now = b.held; faults_before = a.faults; faults_now = b.faults }

abbrev pub meters_from : Between → Between → Meters
meters_from a b = record { before = a.accounts; now = b.accounts }

-- the same, where a sink holds bytes and counts faults, and meters have accounts
abbrev pub between : Option (List ℕ) → ℕ → List Account → Between
between held faults accounts = record { held = held; faults = faults; accounts = accounts }

-- A stream was printed from a source that did not fail, and this many pages of it.
pub record PrintsStream (p : Printer) (s : Screening) (bytes : Stream) (pages : ℕ) (a : Answer) (x y : Between) : Type 0 where
  pub input : Outside
  pub stream_is : input.before ≡ Some bytes
  pub calm : IsCalm input
  pub printed : PrintedOutcome Woven p s input (out_from x y) (meters_from x y) pages a

-- A job was printed, and this was done of it.
pub record PrintsJob (p : Printer) (s : Screening) (job : SpoolJob) (ran : Ran) (a b : Between) : Type 0 where
  pub answer : Answer
  pub prints : PrintsStream p s job.stream ran.pages answer a b
  pub status_is : ran.status ≡ status_of answer
  pub sender_is : ran.sender ≡ job.sender
  pub number_is : ran.number ≡ job.number

-- The jobs were printed one after another, each where the one before it had left the output and the meters.
abbrev pub PrintsJobs : Printer → Screening → List SpoolJob → List Ran → Between → Between → Type 0
PrintsJobs p s [] [] a b = a ≡ b
PrintsJobs p s (job ∷ jobs) (ran ∷ done) a b = (m : Between) × PrintsJob p s job ran a m × PrintsJobs p s jobs done m b
PrintsJobs p s jobs done a b = ⊥

-- the same as a fact with a name
pub record AreDone (p : Printer) (s : Screening) (jobs : List SpoolJob) (done : List Ran) (a b : Between) : Type 0 where
  pub are : PrintsJobs p s jobs done a b

-- Of what the senders sent, these jobs were printed and the others not: of each sender its jobs, in order and numbered
-- from 1, are the first of its streams.
pub record PrintsFirst (p : Printer) (s : Screening) (sent : List (List Stream)) (done : List Ran) (a b : Between) : Type 0 where
  pub jobs : List SpoolJob
  pub others : List SpoolJob
  pub are : AreSent (sent_by sent) (jobs ++ others)
  pub prints : PrintsJobs p s jobs done a b

-- All that the senders sent was printed.
pub record PrintsEvery (p : Printer) (s : Screening) (sent : List (List Stream)) (done : List Ran) (a b : Between) : Type 0 where
  pub jobs : List SpoolJob
  pub are : AreSent (sent_by sent) jobs
  pub prints : PrintsJobs p s jobs done a b
