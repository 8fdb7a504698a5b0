use Rattle.std.proofs.Common.{◌≡◌, take}
use Rattle.page_maker.specs.Made.{drawn, state_after}
use Rattle.page_maker.proofs.draws.Draws.fill.Given as goal

abbrev pub invariant-loop-byte : goal.invariant-loop-byte
invariant-loop-byte l = record {
  filled : take l.byte-index l.bytes ≡ drawn l.byte-index l.fn.self.state;
  state : l.self.state ≡ state_after l.byte-index l.fn.self.state;
}
