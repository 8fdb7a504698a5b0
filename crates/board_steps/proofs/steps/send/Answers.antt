use Rattle.std.proofs.Common.{rules}
use Rattle.board_steps.specs.Steps.{index_of}
use Rattle.board_steps.proofs.Told.{send_told, three}
use Rattle.board_steps.proofs.steps.send.Goals as goal

pub fetch_or-requires : goal.fetch_or-requires
fetch_or-requires c = (
  search rules,
  search rules,
  send_told c.args.words.now.key _ _ _ c.args.dir _ _ c.arrival_bit.ensures c.requires.part c.requires.edge,
)

pub returns-clause-sent : goal.returns-clause-sent
returns-clause-sent c = c.fetch_or.ensures.2 (index_of c.args.dir) (three c.args.dir) c.arrival_bit.ensures
