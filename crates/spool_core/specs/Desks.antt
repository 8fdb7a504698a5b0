-- A desk: a spool, what its senders are to send, and the room for what is done.
use Rattle.std.specs.Prelude.{◌≡◌, ◌<◌, ◌≤◌, ◌^◌, List, [], length, All, vec_capacity}
use Rattle.base_definitions.specs.Counting.{count_from}
use Rattle.spool_queue.specs.Jobs.{Stream, count_sent}
use Rattle.spool_queue.specs.Passes.{IsPrinterOf, room_of, senders_of, taken_of}
use Rattle.spool_core.specs.Senders.{CanSend, lists_in, senders_in}
use Rattle.spool_core.specs.declared.desks.Desk.{Desk}
use Rattle.spool_core.specs.declared.senders.Work.{Work}

-- All passes of the desk's spool are fresh, its senders are to send these lists, and there is room for all of them, in
-- the queue too.
pub record IsDesk (sent : List (List Stream)) (desk : Desk) : Type 0 where
  pub works : All (λ (w : Work). CanSend desk.spool w.pass w.streams.items) desk.works.items
  pub order : senders_in desk.works.items ≡ count_from 1 (senders_of desk.printer)
  pub sends : lists_in desk.works.items ≡ sent
  pub printer : IsPrinterOf desk.spool desk.printer
  pub none_taken : taken_of desk.printer ≡ []
  pub count_is : desk.count ≡ count_sent sent
  pub few : desk.count < 2 ^ 31
  pub queue_room : desk.count ≤ room_of desk.spool
  pub none_ended : desk.ended.items ≡ []
  pub ended_room : length desk.works.items ≤ vec_capacity desk.ended
  pub none_done : desk.done.items ≡ []
  pub done_room : desk.count ≤ vec_capacity desk.done
