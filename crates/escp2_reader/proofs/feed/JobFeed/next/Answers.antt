use Rattle.std.proofs.Common.{arith, refl}
use Rattle.escp2_reader.proofs.Feeding.{goes_filled, goes_first, goes_more, meets_fault, takes_command}
use Rattle.escp2_reader.proofs.Pieces.{none_of}
use Rattle.escp2_reader.proofs.feed.JobFeed.next.Goals as goal

pub pieces-init : goal.pieces-init
pieces-init g c = record {
  goes = goes_first c.args.self.now _ c.requires;
  at = refl;
  later = omega arith;
}

pub pieces-preserved : goal.pieces-preserved
pieces-preserved g c = record {
  goes = goes_more _ (goes_filled c.pieces.invariant.goes c.fill.ensures.text) c.in-More.ensures.fed
      c.in-More.ensures.most;
  at = refl;
  later = omega (arith, c.pieces.invariant.later, c.fill.ensures.cause.later);
}

pub returns-in-One-clause-command : goal.returns-in-One-clause-command
returns-in-One-clause-command g c =
    takes_command _ (goes_filled c.pieces.invariant.goes c.fill.ensures.text) c.in-One.ensures.fed
    c.in-One.ensures.most

pub returns-in-Fault-clause-stop : goal.returns-in-Fault-clause-stop
returns-in-Fault-clause-stop g c =
    meets_fault _ (goes_filled c.pieces.invariant.goes c.fill.ensures.text) c.in-Fault.ensures.fed
    c.in-Fault.ensures.most

pub returns-in_err-fill-clause-all_used : goal.returns-in_err-fill-clause-all_used
returns-in_err-fill-clause-all_used g c = λ _. none_of c.fill.new.self c.in_err-fill.ensures.short
