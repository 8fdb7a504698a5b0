use Rattle.std.proofs.Common.{arith, ap, subst, ◌∙◌, ℕ, List, Err}
use Rattle.std.proofs.lemmas.Result.{err_from_is_err_and}
use Rattle.dot_emulator.specs.Runs.{Runs}
use Rattle.escp2_reader.proofs.Jobs.{some_bytes}
use Rattle.job_player.proofs.Blanks.{given_blank}
use Rattle.job_player.proofs.Playing.{gives_sheet, if_none, is_none, kept_back, plays_all, plays_more, plays_none, plays_nothing}
use Rattle.job_player.proofs.Playing.{plays_to_emulator_stop, plays_to_feed_stop, sheet_unwritten, sheet_written}
use Rattle.job_player.proofs.player.play_job.Goals as goal

pub returns-in_err-feed : goal.returns-in_err-feed
returns-in_err-feed g c =
    let error = err_from_is_err_and c.from_residual.result c.from_residual.ensures.1 in
    rw (error.1, error.2) (plays_nothing c.args.profile.now c.args.most)

pub commands-init : goal.commands-init
commands-init g c = record {
  so_far = plays_none _ _ _ _ _ c.in_ok-feed.ensures.at c.in_ok-feed.ensures.unread c.make-emulator.ensures;
  between = c.in_ok-feed.ensures.between;
  most = c.in_ok-feed.ensures.most;
  later = omega arith;
  out_later = omega arith;
}

pub returns-in_err-placed : goal.returns-in_err-placed
returns-in_err-placed g c =
    let error = err_from_is_err_and c.from_residual-in_err-placed.result c.from_residual-in_err-placed.ensures.1 in
    rw error.1 (plays_to_feed_stop c.args.most
    c.commands.feed c.next.new.self _ _ _ c.in_err-placed.field-0.0 _ c.commands.invariant.so_far
    c.in_err-placed.ensures.stop (λ is. c.in_err-placed.ensures.all_used (ap Err is))
    c.commands.invariant.later c.commands.invariant.most error.2)

pub returns-in_default : goal.returns-in_default
returns-in_default g c =
    plays_all c.args.most c.commands.feed c.next.new.self c.commands.invariant.so_far
    (if_none c.in_ok-placed.field-0 _ c.in_default.not-Some c.in_ok-placed.ensures.end) c.commands.invariant.most

pub commands-preserved-in_default-given : goal.commands-preserved-in_default-given
commands-preserved-in_default-given g c =
    let so_far = c.commands.invariant.so_far in
    let takes = rw c.in-Some.is at c.in_ok-placed.ensures.command in
    let none = is_none c.in-Ok.given c.in_default-given.not-Some in
    let runs = rw none at (rw c.rows.ensures at (c.in-Ok.ensures c.args.profile.now so_far.runs.m so_far.runs.shows)) in
    record {
      so_far = plays_more _ c.in-Some.placed so_far takes runs;
      between = takes.between;
      most = takes.most ∙ c.commands.invariant.most;
      later = omega (arith, c.commands.invariant.later, c.next.ensures.later);
      out_later = c.commands.invariant.out_later;
    }

pub returns-in-Err : goal.returns-in-Err
returns-in-Err g c =
    let so_far = c.commands.invariant.so_far in
    let takes = rw c.in-Some.is at c.in_ok-placed.ensures.command in
    let P : List ℕ → Type 0 = λ rows. Runs c.args.profile.now
    so_far.runs.m c.in-Some.placed.command rows c.commands.emulator c.run.new.self (Err c.in-Err.stop) in
    let runs = subst P c.rows.ensures (c.in-Err.ensures c.args.profile.now so_far.runs.m so_far.runs.shows) in
    plays_to_emulator_stop c.args.most c.run.new.self c.commands.feed c.next.new.self _ _ c.in-Some.placed
    c.in-Err.stop c.refused_at.result so_far takes runs c.commands.invariant.most c.refused_at.ensures

pub returns-in-Err-write_sheet : goal.returns-in-Err-write_sheet
returns-in-Err-write_sheet g c =
    let so_far = c.commands.invariant.so_far in
    let takes = rw c.in-Some.is at c.in_ok-placed.ensures.command in
    let has = gives_sheet _ c.in-Some.placed _ _ c.in-Some-given.sheet so_far takes
    (c.in-Ok.ensures c.args.profile.now) c.rows.ensures c.in-Some-given.is in
    sheet_unwritten c.args.most c.next.new.self c.in-Some-given.sheet
    has c.in-Err-write_sheet.ensures.part c.saturating_add-sheets.ensures (takes.most ∙ c.commands.invariant.most)
    c.commands.invariant.out_later c.in-Err-write_sheet.ensures.cause.failed

pub commands-preserved : goal.commands-preserved
commands-preserved g c =
    let so_far = c.commands.invariant.so_far in
    let takes = rw c.in-Some.is at c.in_ok-placed.ensures.command in
    let has = gives_sheet _ c.in-Some.placed _ _ c.in-Some-given.sheet so_far takes
    (c.in-Ok.ensures c.args.profile.now) c.rows.ensures c.in-Some-given.is in
    record {
      so_far = sheet_written c.in-Some-given.sheet has c.in-Ok-write_sheet.ensures.ok c.saturating_add-sheets.ensures;
      between = takes.between;
      most = takes.most ∙ c.commands.invariant.most;
      later = omega (arith, c.commands.invariant.later, c.next.ensures.later);
      out_later = omega (arith, c.commands.invariant.out_later, c.write_sheet.ensures.cause.later);
    }

pub keep-requires : goal.keep-requires
keep-requires g c =
    let so_far = c.commands.invariant.so_far in
    let runs = rw c.in-Some-given.is at
    (rw c.rows.ensures at (c.in-Ok.ensures c.args.profile.now so_far.runs.m so_far.runs.shows)) in
    given_blank c.args.profile.now so_far.runs.m c.in-Some.placed.command c.in-Some-given.sheet _ runs.1
    (c.has_dots-is_blank.ensures c.args.profile.now so_far.runs.m so_far.runs.shows) c.if-is_blank.true

pub commands-preserved-then-is_blank : goal.commands-preserved-then-is_blank
commands-preserved-then-is_blank g c =
    let so_far = c.commands.invariant.so_far in
    let takes = rw c.in-Some.is at c.in_ok-placed.ensures.command in
    let has = gives_sheet _ c.in-Some.placed _ _ c.in-Some-given.sheet so_far takes
    (c.in-Ok.ensures c.args.profile.now) c.rows.ensures c.in-Some-given.is in
    record {
      so_far = kept_back (sheet_written c.in-Some-given.sheet has c.in-Ok-write_sheet.ensures.ok c.saturating_add-sheets.ensures)
          (c.keep.ensures c.args.profile.now);
      between = takes.between;
      most = takes.most ∙ c.commands.invariant.most;
      later = omega (arith, c.commands.invariant.later, c.next.ensures.later);
      out_later = omega (arith, c.commands.invariant.out_later, c.write_sheet.ensures.cause.later);
    }

pub commands-smaller : goal.commands-smaller
commands-smaller g c =
    let takes = rw c.in-Some.is at c.in_ok-placed.ensures.command in
    omega (arith, takes.behind, takes.within, takes.most, some_bytes takes.bytes _ _ takes.whole)
