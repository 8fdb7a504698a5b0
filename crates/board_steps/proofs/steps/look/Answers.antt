use Rattle.std.proofs.Common.{rules}
use Rattle.board_steps.proofs.Told.{look_told}
use Rattle.board_steps.proofs.steps.look.Goals as goal

pub load-requires : goal.load-requires
load-requires c = (search rules, search rules, look_told c.args.words.now.key _ _ _ _ c.requires.inside c.requires.part)
