use Rattle.std.proofs.Common.{◌≡◌, ◌≤◌, ◌-◌}
use Rattle.escp2_reader.specs.Feeding.{text_of}
use Rattle.escp2_reader.proofs.Feeding.{GoesOn}
use Rattle.escp2_reader.proofs.feed.JobFeed.next.Given as goal

abbrev pub invariant-pieces : goal.invariant-pieces
invariant-pieces g l = record {
  goes : GoesOn l.fn.self l.self.reader l.self.fed l.self.most (text_of l.fn.self (g.S.Source.left l.fn.source))
      (text_of l.self (g.S.Source.left l.source));
  at : l.at ≡ l.fn.self.fed;
  later : g.S.Source.faults l.fn.source ≤ g.S.Source.faults l.source;
}

abbrev pub decreases-pieces : goal.decreases-pieces
decreases-pieces g l = l.self.most - l.self.fed
