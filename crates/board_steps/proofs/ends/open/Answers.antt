use Rattle.std.proofs.Common.{rules}
use Rattle.board_steps.proofs.Ending.{opened, opened_slots}
use Rattle.board_steps.proofs.ends.open.Goals as goal

pub new-requires : goal.new-requires
new-requires c = opened c.args.slab.now _ _ c.requires.words c.requires.slots

pub returns-in-Ok-clause-slots : goal.returns-in-Ok-clause-slots
returns-in-Ok-clause-slots c = opened_slots c.args.slab.now c.args.slots.items _ (search rules) c.requires.slots
