-- What a clause says of a spool and its passes.
use Rattle.std.specs.Prelude.{◌≡◌, ◌≤◌, ℕ, List, map, All, suc, length}
use Rattle.base_definitions.specs.Counting.{count_from}
use Rattle.crossbeam_queue.specs.Passes.{view, IsPassOf, ruled_capacity}
use Rattle.spool_queue.specs.Jobs.{Stream, jobs_of}
use Rattle.spool_queue.specs.declared.job.SpoolJob.{SpoolJob}
use Rattle.spool_queue.specs.declared.kinds.PrintPass.{PrintPass}
use Rattle.spool_queue.specs.declared.kinds.SendPass.{SendPass}
use Rattle.spool_queue.specs.declared.kinds.Spool.{Spool}

-- which sender it is
abbrev pub sender_of : SendPass → ℕ
sender_of pass = pass.sender

-- the streams that it has sent, in order
abbrev pub sent_of : SendPass → List Stream
sent_of pass = (view pass.pass).sent

-- the jobs that it has taken, in order
abbrev pub taken_of : PrintPass → List SpoolJob
taken_of pass = (view pass.pass).taken

-- how many senders its spool has
abbrev pub senders_of : PrintPass → ℕ
senders_of pass = (view pass.pass).senders

-- how many jobs its queue has room for
abbrev pub room_of : Spool → ℕ
room_of spool = ruled_capacity spool.queue

-- the pass is one of the spool
abbrev pub IsSenderOf : Spool → SendPass → Type 0
IsSenderOf spool pass = IsPassOf spool.queue pass.pass

abbrev pub IsPrinterOf : Spool → PrintPass → Type 0
IsPrinterOf spool pass = IsPassOf spool.queue pass.pass

-- these are all passes of the spool, those of the senders in their order
pub record AreAllPasses (spool : Spool) (sending : List SendPass) (printing : PrintPass) : Type 0 where
  pub senders : All (IsSenderOf spool) sending
  pub order : map sender_of sending ≡ count_from 1 (senders_of printing)
  pub printer : IsPrinterOf spool printing

-- what the senders sent, list by list
abbrev pub sent_lists : List SendPass → List (List Stream)
sent_lists senders = map sent_of senders

-- the job is of a sender of the spool, and the next of its jobs
pub record IsNextOf (printer : PrintPass) (x : SpoolJob) : Type 0 where
  pub number : x.number ≡ suc (length (jobs_of x.sender (taken_of printer)))
  pub first : 1 ≤ x.sender
  pub last : x.sender ≤ senders_of printer
