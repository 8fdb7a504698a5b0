use Rattle.std.proofs.Common.{rules}
use Rattle.board_steps.proofs.Told.{take_told}
use Rattle.board_steps.proofs.steps.take.Goals as goal

pub fetch_or-requires : goal.fetch_or-requires
fetch_or-requires c = (
  search rules,
  search rules,
  take_told c.args.words.now.key _ _ _ _ c.requires.inside c.requires.part c.requires.idle.0 c.requires.idle.1 c.requires.ready,
)
