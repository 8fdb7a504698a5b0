use Rattle.std.proofs.Common.{◌≤◌, ◌+◌, ap, arith, length, length-take-le, rules, take, drop, ◌∙◌}
use Rattle.std.proofs.lemmas.List.{take_all}
use Rattle.escp2_reader.specs.Reading.{shows_fault}
use Rattle.job_finisher.proofs.Pieces.{ends_later, ends_within, hears_all, hears_fault, hears_more, hears_one, used_more, used_parts}
use Rattle.job_finisher.proofs.hearing.hear.Goals as goal

pub commands-preserved-in-More : goal.commands-preserved-in-More
commands-preserved-in-More c =
    let piece = c.args.piece.now in
    let at = c.commands.at in
    let used = c.feed-heard.result.used in
    let is_open = c.feed-heard.ensures.failed ∙ ap shows_fault c.in-More.is in
    record {
      within = search rules;
      whole_in = ends_later c.commands.whole at (at + used) (omega arith) c.commands.invariant.whole_in;
      is_open = is_open;
      fed = omega (arith, c.feed-heard.ensures.fed, c.commands.invariant.fed);
      hears = λ done part stood.
          hears_more c.commands.reader c.feed-heard.new.self c.commands.state c.commands.whole done part (take at piece) _ (take (at + used) piece)
          c.feed-heard.result.state c.in-More.is (used_more piece at used c.commands.invariant.within)
          (ends_within c.commands.whole piece at c.commands.invariant.within c.commands.invariant.whole_in)
          is_open c.feed-heard.ensures.heard (c.commands.invariant.hears done part stood);
    }

pub commands-preserved : goal.commands-preserved
commands-preserved c =
    let piece = c.args.piece.now in
    let at = c.commands.at in
    let used = c.feed-heard.result.used in
    let is_open = c.feed-heard.ensures.failed ∙ ap shows_fault c.in-One.is in
    let within : at + used ≤ length piece = search rules in
    record {
      within = within;
      whole_in = omega arith;
      is_open = is_open;
      fed = omega (arith, c.feed-heard.ensures.fed, c.commands.invariant.fed);
      hears = λ done part stood.
          hears_one c.commands.reader c.feed-heard.new.self c.commands.state c.after.result c.commands.whole done part (take at piece) _
          (take (at + used) piece) (at + used) c.feed-heard.result.state c.in-One.command c.in-One.is
          (used_more piece at used c.commands.invariant.within) (omega (arith, length-take-le (at + used) piece within))
          is_open c.after.ensures c.feed-heard.ensures.heard (c.commands.invariant.hears done part stood);
    }

pub returns-in-Fault-clause-hears : goal.returns-in-Fault-clause-hears
returns-in-Fault-clause-hears c =
    let piece = c.args.piece.now in
    let at = c.commands.at in
    let used = c.feed-heard.result.used in
    λ done part stood.
    hears_fault c.commands.reader c.feed-heard.new.self c.commands.state c.commands.whole done part (take at piece) _ (drop (at + used) piece) piece
    c.feed-heard.result.state c.in-Fault.offset c.in-Fault.cause c.in-Fault.is (used_parts piece at used c.commands.invariant.within)
    (ends_within c.commands.whole piece at c.commands.invariant.within c.commands.invariant.whole_in)
    c.feed-heard.ensures.heard (c.commands.invariant.hears done part stood)

pub returns-clause-hears : goal.returns-clause-hears
returns-clause-hears c =
    let piece = c.args.piece.now in
    λ done part stood.
    hears_all c.commands.reader c.commands.state c.commands.whole done part (take c.commands.at piece) piece
    (take_all c.commands.at piece (omega arith)) (c.commands.invariant.hears done part stood)
