use Rattle.board_steps.proofs.PostEvents.{post_event}
use Rattle.board_steps.proofs.SendEvents.{send_event}
use Rattle.board_steps.proofs.TakeEvents.{take_event}
use Rattle.board_steps.proofs.laws.steps_are_events.Goals as goal

pub returns : goal.returns
returns c = record { take = take_event; send = send_event; post = post_event }
