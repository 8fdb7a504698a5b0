use Rattle.board_steps.specs.Rule.{setting_of}
use Rattle.board_steps.proofs.Ending.{closes}
use Rattle.board_steps.proofs.ends.close.Goals as goal

pub returns-clause-once : goal.returns-clause-once
returns-clause-once c = (closes
    (setting_of c.args.table.shared.key) _ c.args.seat.me.0 _ _ c.close_with.ensures.values.2 c.requires.posted).once

pub returns-clause-gives : goal.returns-clause-gives
returns-clause-gives c = (closes
    (setting_of c.args.table.shared.key) _ c.args.seat.me.0 _ _ c.close_with.ensures.values.2 c.requires.posted).gives
