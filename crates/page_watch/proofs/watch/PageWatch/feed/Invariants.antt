use Rattle.std.proofs.Common.{◌≡◌, ℕ, ◌+◌, ◌-◌, ◌≤◌, ◌++◌, false, List, length, take, IfSome}
use Rattle.escp2_reader.specs.Reading.{is_failed_of}
use Rattle.page_watch.proofs.Pieces.{ReadsOn}
use Rattle.page_watch.specs.Watching.{EndsWhole, Watched, fed_to}
use Rattle.page_watch.proofs.watch.PageWatch.feed.Given as goal

abbrev pub invariant-commands : goal.invariant-commands
invariant-commands l = record {
  within : l.at ≤ length l.piece;
  whole_in : IfSome l.whole (λ end. end ≤ l.at);
  is_open : is_failed_of l.self.reader ≡ false;
  fed : fed_to l.self ≡ fed_to l.fn.self + l.at;
  reads : (sofar : List ℕ) → Watched l.fn.self sofar → ReadsOn l.telling l.self sofar (sofar ++ take l.at l.piece);
  ends : (sofar : List ℕ) → Watched l.fn.self sofar → EndsWhole l.whole sofar (take l.at l.piece);
}

abbrev pub decreases-commands : goal.decreases-commands
decreases-commands l = length l.piece - l.at
