use Rattle.std.proofs.Common.{◌+◌, ◌≤◌, length, length-take-le, take, refl, ap, arith, rules, ◌∙◌}
use Rattle.escp2_reader.specs.Reading.{shows_fault}
use Rattle.page_tally.specs.Tallies.{tally_after}
use Rattle.page_watch.specs.declared.watch.PageWatch.{PageWatch}
use Rattle.page_watch.proofs.Pieces.{ends_later, in_table_of, reads_event, reads_fault, reads_part, reads_quiet, used_more, whole_fault, whole_none, whole_one, whole_part}
use Rattle.page_watch.proofs.Told.{told_event, told_none}
use Rattle.page_watch.proofs.watch.PageWatch.feed.Goals as goal

pub commands-preserved-in-More : goal.commands-preserved-in-More
commands-preserved-in-More c =
    let piece = c.args.piece.now in
    let at = c.commands.at in
    let used = c.feed-heard.result.used in
    let is_open = c.feed-heard.ensures.failed ∙ ap shows_fault c.in-More.is in
    record {
      within = search rules;
      is_open = is_open;
      fed = omega (arith, c.feed-heard.ensures.fed, c.commands.invariant.fed);
      reads = λ sofar watched.
          reads_part c.args.telling c.commands.self _ sofar (take at piece) _ (take (at + used) piece) c.feed-heard.result.state c.in-More.is
          (used_more piece at used c.commands.invariant.within) refl is_open c.feed-heard.ensures.heard
          (c.commands.invariant.reads sofar watched);
      whole_in = ends_later c.commands.whole at (at + used) (omega arith) c.commands.invariant.whole_in;
      ends = λ sofar watched.
          whole_part c.args.telling c.commands.self _ c.commands.whole sofar (take at piece) _ (take (at + used) piece) c.feed-heard.result.state c.in-More.is
          (used_more piece at used c.commands.invariant.within) c.feed-heard.ensures.heard
          (ends_later c.commands.whole at (length (take at piece)) (omega (arith, length-take-le at piece c.commands.invariant.within)) c.commands.invariant.whole_in)
          (c.commands.invariant.reads sofar watched) (c.commands.invariant.ends sofar watched);
    }

pub see-requires-clause-in_range : goal.see-requires-clause-in_range
see-requires-clause-in_range c =
    let so_far = c.commands.invariant.reads c.requires.watching.0 c.requires.watching.1 in
    (in_table_of c.commands.self c.feed-heard.new.self c.feed-heard.result.state c.in-One.command _ _ c.in-One.is
    c.feed-heard.ensures.heard so_far.watched).0

pub see-requires-clause-rows_fit : goal.see-requires-clause-rows_fit
see-requires-clause-rows_fit c =
    let so_far = c.commands.invariant.reads c.requires.watching.0 c.requires.watching.1 in
    ap length c.rows.ensures
    ∙ (in_table_of c.commands.self c.feed-heard.new.self c.feed-heard.result.state c.in-One.command _ _ c.in-One.is
    c.feed-heard.ensures.heard so_far.watched).1

pub returns-then-is_due-clause-seen : goal.returns-then-is_due-clause-seen
returns-then-is_due-clause-seen c =
    let piece = c.args.piece.now in
    let at = c.commands.at in
    let used = c.feed-heard.result.used in
    let new : PageWatch = record { reader = c.feed-heard.new.self; tally = c.see.new.self } in
    λ sofar watched.
    reads_event c.args.telling c.commands.self new sofar (take at piece) _ (take (at + used) piece) c.feed-heard.result.state
    c.in-One.command c.in-One.is (used_more piece at used c.commands.invariant.within)
    (c.see.ensures ∙ ap (tally_after c.commands.self.tally c.in-One.command) c.rows.ensures)
    (c.feed-heard.ensures.failed ∙ ap shows_fault c.in-One.is) c.feed-heard.ensures.heard (search rules)
    (c.commands.invariant.reads sofar watched)

pub returns-then-is_due-clause-whole : goal.returns-then-is_due-clause-whole
returns-then-is_due-clause-whole c =
    let piece = c.args.piece.now in
    let at = c.commands.at in
    let used = c.feed-heard.result.used in
    let new : PageWatch = record { reader = c.feed-heard.new.self; tally = c.see.new.self } in
    let within : at + used ≤ length piece = search rules in
    λ sofar watched.
    whole_one c.args.telling c.commands.self new sofar (take at piece) _ (take (at + used) piece) (at + used) c.feed-heard.result.state
    c.in-One.command c.in-One.is (used_more piece at used c.commands.invariant.within)
    (c.see.ensures ∙ ap (tally_after c.commands.self.tally c.in-One.command) c.rows.ensures)
    (c.feed-heard.ensures.failed ∙ ap shows_fault c.in-One.is) c.feed-heard.ensures.heard
    (c.commands.invariant.reads sofar watched) (omega (arith, length-take-le (at + used) piece within))

pub returns-then-is_due-clause-told : goal.returns-then-is_due-clause-told
returns-then-is_due-clause-told c =
    let piece = c.args.piece.now in
    let at = c.commands.at in
    let used = c.feed-heard.result.used in
    let new : PageWatch = record { reader = c.feed-heard.new.self; tally = c.see.new.self } in
    λ sofar watched.
    let ends = reads_event c.args.telling c.commands.self new sofar (take at piece) _ (take (at + used) piece) c.feed-heard.result.state
    c.in-One.command c.in-One.is (used_more piece at used c.commands.invariant.within)
    (c.see.ensures ∙ ap (tally_after c.commands.self.tally c.in-One.command) c.rows.ensures)
    (c.feed-heard.ensures.failed ∙ ap shows_fault c.in-One.is) c.feed-heard.ensures.heard (search rules)
    (c.commands.invariant.reads sofar watched) in
    told_event c.args.telling _ c.see.new.self sofar _ ends.0.tally_is ends.1

pub commands-preserved : goal.commands-preserved
commands-preserved c =
    let piece = c.args.piece.now in
    let at = c.commands.at in
    let used = c.feed-heard.result.used in
    let new : PageWatch = record { reader = c.feed-heard.new.self; tally = c.see.new.self } in
    let is_open = c.feed-heard.ensures.failed ∙ ap shows_fault c.in-One.is in
    let within : at + used ≤ length piece = search rules in
    record {
      within = within;
      is_open = is_open;
      fed = omega (arith, c.feed-heard.ensures.fed, c.commands.invariant.fed);
      reads = λ sofar watched.
          reads_quiet c.args.telling c.commands.self new sofar (take at piece) _ (take (at + used) piece) c.feed-heard.result.state
          c.in-One.command c.in-One.is (used_more piece at used c.commands.invariant.within)
          (c.see.ensures ∙ ap (tally_after c.commands.self.tally c.in-One.command) c.rows.ensures)
          is_open c.feed-heard.ensures.heard (search rules) (c.commands.invariant.reads sofar watched);
      whole_in = omega arith;
      ends = λ sofar watched.
          whole_one c.args.telling c.commands.self new sofar (take at piece) _ (take (at + used) piece) (at + used) c.feed-heard.result.state
          c.in-One.command c.in-One.is (used_more piece at used c.commands.invariant.within)
          (c.see.ensures ∙ ap (tally_after c.commands.self.tally c.in-One.command) c.rows.ensures)
          is_open c.feed-heard.ensures.heard (c.commands.invariant.reads sofar watched)
          (omega (arith, length-take-le (at + used) piece within));
    }

pub returns-in-Fault-clause-within : goal.returns-in-Fault-clause-within
returns-in-Fault-clause-within c =
    ends_later c.commands.whole c.commands.at (c.commands.at + c.feed-heard.result.used) (omega arith) c.commands.invariant.whole_in

pub returns-in-Fault-clause-whole : goal.returns-in-Fault-clause-whole
returns-in-Fault-clause-whole c =
    let piece = c.args.piece.now in
    let at = c.commands.at in
    let used = c.feed-heard.result.used in
    λ sofar watched.
    whole_fault c.args.telling c.commands.self _ c.commands.whole sofar (take at piece) _ (take (at + used) piece) c.feed-heard.result.state
    c.in-Fault.offset c.in-Fault.cause c.in-Fault.is (used_more piece at used c.commands.invariant.within) c.feed-heard.ensures.heard
    (ends_later c.commands.whole at (length (take at piece)) (omega (arith, length-take-le at piece c.commands.invariant.within)) c.commands.invariant.whole_in)
    (c.commands.invariant.reads sofar watched) (c.commands.invariant.ends sofar watched)

pub returns-in-Fault-clause-seen : goal.returns-in-Fault-clause-seen
returns-in-Fault-clause-seen c =
    let piece = c.args.piece.now in
    let at = c.commands.at in
    let used = c.feed-heard.result.used in
    λ sofar watched.
    reads_fault c.args.telling c.commands.self _ sofar (take at piece) _ (take (at + used) piece) c.feed-heard.result.state
    c.in-Fault.offset c.in-Fault.cause c.in-Fault.is (used_more piece at used c.commands.invariant.within) refl
    c.feed-heard.ensures.heard (c.commands.invariant.reads sofar watched)

pub returns-in-Fault-clause-told : goal.returns-in-Fault-clause-told
returns-in-Fault-clause-told c =
    let piece = c.args.piece.now in
    let at = c.commands.at in
    let used = c.feed-heard.result.used in
    let new : PageWatch = record { reader = c.feed-heard.new.self; tally = c.commands.self.tally } in
    λ sofar watched.
    told_none c.args.telling sofar _
    (reads_fault c.args.telling c.commands.self new sofar (take at piece) _ (take (at + used) piece) c.feed-heard.result.state
    c.in-Fault.offset c.in-Fault.cause c.in-Fault.is (used_more piece at used c.commands.invariant.within) refl
    c.feed-heard.ensures.heard (c.commands.invariant.reads sofar watched)).1

pub returns-clause-told : goal.returns-clause-told
returns-clause-told c = λ sofar watched. told_none c.args.telling sofar _ (c.commands.invariant.reads sofar watched).quiet

pub commands-init : goal.commands-init
commands-init c = record {
  within = omega arith;
  whole_in = tt;
  is_open = c.requires.watching.1.is_open;
  fed = omega arith;
  reads = search rules;
  ends = λ sofar watched. whole_none sofar;
}
