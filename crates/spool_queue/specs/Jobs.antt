-- Jobs, and what senders sent.
use Rattle.std.specs.Prelude.{ℕ, zero, suc, ◌==◌, if◌then◌else◌, List, [], ◌∷◌, length, map, sum, slice_index_or, ◌≡◌}
use Rattle.spool_queue.specs.declared.job.SpoolJob.{SpoolJob}

-- the bytes of a page stream
abbrev pub Stream : Type 0
Stream = List ℕ

-- the job of a sender with this number and this stream
abbrev pub job : ℕ → ℕ → Stream → SpoolJob
job s n stream = record { sender = s; number = n; stream = stream }

-- those of the jobs that are of sender s, in their order
abbrev pub jobs_of : ℕ → List SpoolJob → List SpoolJob
jobs_of s [] = []
jobs_of s (x ∷ jobs) = if x.sender == s then x ∷ jobs_of s jobs else jobs_of s jobs

-- the streams as jobs of sender s, numbered from n on
abbrev pub numbered : ℕ → ℕ → List Stream → List SpoolJob
numbered s n [] = []
numbered s n (stream ∷ streams) = job s n stream ∷ numbered s (suc n) streams

-- what sender s sent, where senders 1, 2 and so on sent the lists: nothing, where it is none of them
abbrev pub sent_by : List (List Stream) → ℕ → List Stream
sent_by lists zero = []
sent_by lists (suc k) = slice_index_or lists k []

-- how many streams the lists have in all
abbrev pub count_sent : List (List Stream) → ℕ
count_sent lists = sum (map length lists)

-- of each sender, the jobs are the streams that it sent, in order and numbered from 1; so nothing else is among them
abbrev pub AreSent : (ℕ → List Stream) → List SpoolJob → Type 0
AreSent sent jobs = (s : ℕ) → jobs_of s jobs ≡ numbered s 1 (sent s)
