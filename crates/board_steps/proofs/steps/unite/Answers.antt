use Rattle.std.proofs.Common.{rules}
use Rattle.board_steps.specs.Rule.{setting_of}
use Rattle.board_steps.proofs.Parts.{counts}
use Rattle.board_steps.proofs.Passes.{joins}
use Rattle.board_steps.proofs.steps.unite.Goals as goal

pub join_seat-requires : goal.join_seat-requires
join_seat-requires c = (
  search rules,
  search rules,
  search rules,
  search rules,
  joins (setting_of c.args.words.now.key) _ _ c.args.seat.now.me.0 c.args.other.me.0 c.requires.parts.0 c.requires.parts.1
      c.requires.idle.0,
)

pub load-requires : goal.load-requires
load-requires c = (search rules, search rules, counts (setting_of c.args.words.now.key) _ _ c.join_seat.new.seat.me 0)
