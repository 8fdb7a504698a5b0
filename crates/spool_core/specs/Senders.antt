-- What senders do.
use Rattle.std.specs.Prelude.{◌≡◌, ℕ, ◌<◌, ◌^◌, List, [], length, map, All}
use Rattle.spool_queue.specs.Jobs.{Stream}
use Rattle.spool_queue.specs.Passes.{IsSenderOf, sender_of, sent_of, sent_lists}
use Rattle.spool_queue.specs.declared.kinds.SendPass.{SendPass}
use Rattle.spool_queue.specs.declared.kinds.Spool.{Spool}
use Rattle.spool_core.specs.declared.senders.Work.{Work}

-- the pass is one of the spool, has sent nothing, and has numbers for all the streams
abbrev pub CanSend : Spool → SendPass → List Stream → Type 0
CanSend spool pass streams = IsSenderOf spool pass × (sent_of pass ≡ []) × (length streams < 2 ^ 31)

-- the pass is that of the sender, and has sent the streams
abbrev pub HasSent : Spool → SendPass → ℕ → List Stream → Type 0
HasSent spool pass s streams = IsSenderOf spool pass × (sender_of pass ≡ s) × (sent_of pass ≡ streams)

-- so have the passes of several senders
pub record HaveSent (spool : Spool) (passes : List SendPass) (numbers : List ℕ) (lists : List (List Stream)) : Type 0 where
  pub senders : All (IsSenderOf spool) passes
  pub order : map sender_of passes ≡ numbers
  pub sent : sent_lists passes ≡ lists

-- the senders that are to send
abbrev pub senders_in : List Work → List ℕ
senders_in works = map (λ (w : Work). sender_of w.pass) works

-- what each of them is to send
abbrev pub lists_in : List Work → List (List Stream)
lists_in works = map (λ (w : Work). w.streams.items) works
