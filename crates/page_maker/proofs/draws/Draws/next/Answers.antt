use Rattle.page_maker.proofs.Drawing.{draw-wraps, next_state-wraps}
use Rattle.page_maker.proofs.draws.Draws.next.Goals as goal

pub returns-clause-byte : goal.returns-clause-byte
returns-clause-byte c = draw-wraps c.args.self.now.state

pub returns-clause-state : goal.returns-clause-state
returns-clause-state c = next_state-wraps c.args.self.now.state
