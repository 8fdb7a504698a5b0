use Rattle.std.proofs.Common.{rules}
use Rattle.board_steps.specs.Rule.{setting_of}
use Rattle.board_steps.proofs.Passes.{splits}
use Rattle.board_steps.proofs.steps.cut.Goals as goal

pub split_seat-requires : goal.split_seat-requires
split_seat-requires c = (
  search rules,
  search rules,
  splits (setting_of c.args.words.now.key) _ c.args.seat.now.me.0 c.requires.parts c.requires.first,
)
