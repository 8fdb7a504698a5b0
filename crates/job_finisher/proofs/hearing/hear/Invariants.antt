use Rattle.std.proofs.Common.{◌≡◌, ℕ, ◌+◌, ◌-◌, ◌≤◌, false, List, length, take, IfSome}
use Rattle.escp2_reader.specs.Reading.{fed_of, is_failed_of}
use Rattle.job_finisher.specs.Hearing.{StandsBehind}
use Rattle.job_finisher.proofs.Pieces.{HearsSoFar}
use Rattle.job_finisher.proofs.hearing.hear.Given as goal

abbrev pub invariant-commands : goal.invariant-commands
invariant-commands l = record {
  within : l.at ≤ length l.piece;
  whole_in : IfSome l.whole (λ end. end ≤ l.at);
  is_open : is_failed_of l.reader ≡ false;
  fed : fed_of l.reader ≡ fed_of l.fn.reader + l.at;
  hears : (done part : List ℕ) → StandsBehind l.fn.reader l.fn.state done part
      → HearsSoFar l.reader l.state l.whole done part (take l.at l.piece);
}

abbrev pub decreases-commands : goal.decreases-commands
decreases-commands l = length l.piece - l.at
