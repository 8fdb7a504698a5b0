-- The rule of the spool, over what the queue holds and what each pass knows.
use Rattle.std.specs.Prelude.{◌≡◌, ℕ, suc, ◌<◌, ◌≤◌, true, false, List, [], ◌++◌, length, slice_index_or}
use mathlib.Core.Option.{Option, none, some}
use lib.ListN.{get_elem?}
use Rattle.spool_queue.specs.Jobs.{Stream, jobs_of, AreSent, sent_by, count_sent}
use Rattle.spool_queue.specs.declared.job.SpoolJob.{SpoolJob}
use Rattle.spool_queue.specs.declared.rule.QueueView.{QueueView}

-- what the printer knows: how many senders there are, what it has taken, and what those sent whose passes are spent
abbrev pub printer_view : ℕ → List SpoolJob → List (List Stream) → QueueView
printer_view senders taken ended = record {
  sends = false;
  sender = 0;
  sent = [];
  prints = true;
  taken = taken;
  senders = senders;
  ended = ended;
}

-- what a sender knows: who it is, and what it has sent
abbrev pub sender_view : ℕ → List Stream → QueueView
sender_view s sent = record { sends = true; sender = s; sent = sent; prints = false; taken = []; senders = 0; ended = [] }

-- what a spent pass knows
abbrev pub spent_view : QueueView
spent_view = record { sends = false; sender = 0; sent = []; prints = false; taken = []; senders = 0; ended = [] }

-- Each sender has one pass, which knows what the sender sent. `seat` gives the number of that pass.
abbrev pub FitsSender : (ℕ → Option ℕ) → (ℕ → List Stream) → ℕ → QueueView → Type 0
FitsSender seat sent pass v = v.sends ≡ true → (seat v.sender ≡ some pass) × (v.sent ≡ sent v.sender)

-- sender s has no pass, and sent these streams
abbrev pub HasEnded : (ℕ → Option ℕ) → (ℕ → List Stream) → ℕ → List Stream → Type 0
HasEnded seat sent s streams = (seat s ≡ none) × (sent s ≡ streams)

-- The printer is one pass, which knows what was taken. It knows of each number that is no sender, and of each sender
-- whose pass is spent, what that sent.
pub record FitsPrinter (seat : ℕ → Option ℕ) (sent : ℕ → List Stream) (taken : List SpoolJob) (reader pass : ℕ) (v : QueueView)
    : Type 0 where
  pub here : pass ≡ reader
  pub taken_is : v.taken ≡ taken
  pub nobody : HasEnded seat sent 0 []
  pub later : (s : ℕ) → v.senders < s → HasEnded seat sent s []
  pub ended : (k : ℕ) → k < length v.ended → HasEnded seat sent (suc k) (slice_index_or v.ended k [])
  pub within : length v.ended ≤ v.senders

-- The rule: the jobs that were taken, and then those in the queue, are what the senders' passes have sent.
pub record FollowsRule (items : List SpoolJob) (views : List QueueView) : Type 0 where
  pub seat : ℕ → Option ℕ
  pub sent : ℕ → List Stream
  pub taken : List SpoolJob
  pub reader : ℕ
  pub each : AreSent sent (taken ++ items)
  pub senders : (pass : ℕ) (v : QueueView) → get_elem? views pass ≡ some v → FitsSender seat sent pass v
  pub printers : (pass : ℕ) (v : QueueView) → get_elem? views pass ≡ some v → v.prints ≡ true
      → FitsPrinter seat sent taken reader pass v

-- The jobs that the printer's pass has taken, and then those in the queue, are what was sent: of a sender with a pass
-- what that pass has sent, and of each sender whose pass is spent what that had sent; no other number has sent any.
pub record IsAsSent (items : List SpoolJob) (views : List QueueView) (printer : QueueView) : Type 0 where
  pub sent : ℕ → List Stream
  pub each : AreSent sent (printer.taken ++ items)
  pub senders : (pass : ℕ) (v : QueueView) → get_elem? views pass ≡ some v → v.sends ≡ true → sent v.sender ≡ v.sent
  pub ended : (k : ℕ) → k < length printer.ended → sent (suc k) ≡ slice_index_or printer.ended k []
  pub nobody : sent 0 ≡ []
  pub later : (s : ℕ) → printer.senders < s → sent s ≡ []

-- the job is of a sender of the spool, and the next of its jobs
abbrev pub IsNext : QueueView → SpoolJob → Type 0
IsNext v x = (x.number ≡ suc (length (jobs_of x.sender v.taken))) × (1 ≤ x.sender) × (x.sender ≤ v.senders)

-- where all senders have ended: what was taken and what is left are what they sent, and as many
pub record IsSettled (v : QueueView) (items : List SpoolJob) : Type 0 where
  pub each : AreSent (sent_by v.ended) (v.taken ++ items)
  pub count : length (v.taken ++ items) ≡ count_sent v.ended
