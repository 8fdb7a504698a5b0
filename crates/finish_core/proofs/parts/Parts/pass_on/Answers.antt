use Rattle.std.proofs.Common.{◌∙◌, length, length-take-le, take, ap, arith}
use Rattle.finish_core.proofs.Seen.{left_fits, passes_seen, stops_at_fault, stops_part, writes_made, writes_part}
use Rattle.finish_core.specs.Passing.{page_in_hand}
use Rattle.job_finisher.specs.Holding.{held_in}
use Rattle.page_watch.proofs.Pieces.{ends_later}
use Rattle.finish_core.proofs.parts.Parts.pass_on.Goals as goal

pub write_whole-requires : goal.write_whole-requires
write_whole-requires g c =
    let piece = c.args.piece.now in
    let used = c.feed-seen.result.used in
    ends_later c.feed-seen.result.whole used (length (take used piece)) (omega (arith, length-take-le used piece c.feed-seen.ensures.used))
    c.feed-seen.ensures.within

pub returns-in-Err-clause-stop : goal.returns-in-Err-clause-stop
returns-in-Err-clause-stop g c = λ sofar full reads cut.
    let piece = c.args.piece.now in
    let used = c.feed-seen.result.used in (
      c.in-Err.ensures.cause.failed,
      stops_part c.args.telling c.feed-seen.new.self _ sofar piece full used c.feed-seen.result.state c.page-page.result cut
          (c.feed-seen.ensures.seen sofar reads.watched)
          (writes_part _ c.feed-seen.result.whole sofar (held_in c.args.self.now.held) (take used piece) reads.behind
          (c.feed-seen.ensures.whole sofar reads.watched) c.in-Err.ensures.part)
          (c.page-page.ensures ∙ ap page_in_hand reads.watched.tally_is),
    )

pub keep_rest-requires-clause-room : goal.keep_rest-requires-clause-room
keep_rest-requires-clause-room g c =
    let sofar = c.requires.reading.0 in
    let reads = c.requires.reading.1 in
    left_fits c.feed-seen.result.state c.args.telling c.feed-seen.new.self c.feed-seen.result.whole sofar (held_in c.args.self.now.held)
    (take c.feed-seen.result.used c.args.piece.now) c.in-None.ensures reads.behind (c.feed-seen.ensures.whole sofar reads.watched)
    (c.feed-seen.ensures.seen sofar reads.watched)

pub returns-in-Some-clause-stop : goal.returns-in-Some-clause-stop
returns-in-Some-clause-stop g c = λ sofar full reads cut.
    let piece = c.args.piece.now in
    let used = c.feed-seen.result.used in
    stops_at_fault c.args.telling _ _ sofar piece full used c.feed-seen.result.state c.in-Some.halt c.in-Some.ensures cut
    (c.feed-seen.ensures.seen sofar reads.watched) (c.feed-seen.ensures.told sofar reads.watched)
    (writes_made _ c.feed-seen.result.whole sofar (held_in c.args.self.now.held) (take used piece) reads.behind
    (c.feed-seen.ensures.whole sofar reads.watched) c.in-Ok.ensures.ok)

pub returns-in-None-clause-passes : goal.returns-in-None-clause-passes
returns-in-None-clause-passes g c = λ sofar reads.
    let used = take c.feed-seen.result.used c.args.piece.now in
    let ends = c.feed-seen.ensures.whole sofar reads.watched in
    passes_seen c.args.telling _ _ c.feed-seen.result.whole sofar (held_in c.args.self.now.held) used c.feed-seen.result.state c.in-None.ensures
    reads.behind ends c.keep_rest.ensures (c.feed-seen.ensures.seen sofar reads.watched)
    (writes_made _ c.feed-seen.result.whole sofar (held_in c.args.self.now.held) used reads.behind ends c.in-Ok.ensures.ok)
    (c.feed-seen.ensures.told sofar reads.watched)
