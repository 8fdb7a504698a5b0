use Rattle.std.proofs.Common.{List, [], ℕ, Err, arith, length, length-drop, refl, subst, sym, ◌∙◌, ap}
use Rattle.std.proofs.lemmas.List.{take_all}
use Rattle.std.proofs.lemmas.Bool.{eqb-false, eqb-true}
use Rattle.dot_emulator.specs.Runs.{Runs}
use Rattle.escp2_reader.specs.Reading.{shows_fault}
use Rattle.job_player.proofs.PageRuns.{counts_none, counts_on, counts_page, counts_sheet, fed_left, left_as}
use Rattle.job_player.proofs.PageRuns.{never_refused, never_unheard, none_left, page_sheet, room_left, some_steps}
use Rattle.job_player.proofs.counting.JobCounter.execute_page.Goals as goal

pub commands-init : goal.commands-init
commands-init c = record {
  so_far = λ p dots between gives. counts_none p between.machine dots c.args.self.now c.args.bytes.now between.shows;
  stands = c.in_ok-reader.ensures.anew;
  is_open = c.in_ok-reader.ensures.is_open;
  fed = omega (arith, c.in_ok-reader.ensures.fed);
}

pub unreachable-requires : goal.unreachable-requires
unreachable-requires c =
    let page = c.requires.page in
    never_unheard _ _ page.dots _ _ c.args.bytes.now c.commands.rest.now c.feed-heard.result.used _ _ _
    (c.commands.invariant.so_far page.printer page.dots page.between page.gives) page.gives.whole
    (omega (arith, eqb-false (length c.commands.rest.now) 0 (sym c.is_empty.ensures ∙ c.commands-test.true)))
    (c.feed-heard.ensures.heard [] c.commands.invariant.stands) c.feed-heard.ensures.all c.in-More.is

pub commands-preserved-in-Ok-None : goal.commands-preserved-in-Ok-None
commands-preserved-in-Ok-None c =
    let heard = rw c.in-One.is at (c.feed-heard.ensures.heard [] c.commands.invariant.stands) in
    record {
      so_far = λ p dots between gives.
          let so_far = c.commands.invariant.so_far p dots between gives in
          left_as p between.machine dots _ _ _ _ _ (take_all _ _ (omega (arith, length-drop c.feed-heard.result.used c.commands.rest.now)))
          (counts_on p between.machine dots _ c.commands.self _ _ c.commands.rest.now c.feed-heard.result.used c.in-One.command _
          so_far heard.whole (rw c.in-Ok-None.field-0-is at (rw c.rows.ensures at (c.in-Ok-None.ensures p so_far.m so_far.shows))) refl refl);
      stands = heard.stands;
      is_open = c.feed-heard.ensures.failed ∙ ap shows_fault c.in-One.is;
      fed = fed_left _ _ c.feed-heard.result.used _ c.commands.rest.now _
          (take_all _ _ (omega (arith, length-drop c.feed-heard.result.used c.commands.rest.now)))
          c.feed-heard.ensures.used c.feed-heard.ensures.fed c.commands.invariant.fed;
    }

pub add-requires : goal.add-requires
add-requires c =
    let page = c.requires.page in
    let so_far = c.commands.invariant.so_far page.printer page.dots page.between page.gives in
    let heard = rw c.in-One.is at (c.feed-heard.ensures.heard [] c.commands.invariant.stands) in
    let runs = rw c.in-Ok-Some.field-0-is at (rw c.rows.ensures at (c.in-Ok-Some.ensures page.printer so_far.m so_far.shows)) in
    let is = page_sheet _ _ page.dots c.args.self.now c.commands.self c.args.bytes.now c.commands.rest.now
    c.feed-heard.result.used c.in-One.command _ _ so_far heard.whole page.gives page.between.blank runs.0 runs.1.1 in
    omega (arith, c.requires.room, room_left page.dots c.args.self.now c.commands.self so_far.sheets so_far.counted is.first)

pub commands-preserved : goal.commands-preserved
commands-preserved c =
    let heard = rw c.in-One.is at (c.feed-heard.ensures.heard [] c.commands.invariant.stands) in
    record {
      so_far = λ p dots between gives.
          let so_far = c.commands.invariant.so_far p dots between gives in
          let runs = rw c.in-Ok-Some.field-0-is at (rw c.rows.ensures at (c.in-Ok-Some.ensures p so_far.m so_far.shows)) in
          let some = some_steps p c.commands.self.emulator so_far.m so_far.shows in
          left_as p between.machine dots _ _ _ _ _ (take_all _ _ (omega (arith, length-drop c.feed-heard.result.used c.commands.rest.now)))
          (counts_sheet p between.machine dots _ c.commands.self _ _ c.commands.rest.now c.feed-heard.result.used c.in-One.command _
          c.run.new.self c.in-Ok-Some.sheet so_far heard.whole gives between.blank runs c.add.ensures.emulator c.add.ensures.sheets
          (λ s is exactly distinct. c.add.ensures.dots p s dots some.0 some.1 is exactly distinct));
      stands = heard.stands;
      is_open = c.feed-heard.ensures.failed ∙ ap shows_fault c.in-One.is;
      fed = fed_left _ _ c.feed-heard.result.used _ c.commands.rest.now _
          (take_all _ _ (omega (arith, length-drop c.feed-heard.result.used c.commands.rest.now)))
          c.feed-heard.ensures.used c.feed-heard.ensures.fed c.commands.invariant.fed;
    }

pub unreachable-requires-in-Err-Refused : goal.unreachable-requires-in-Err-Refused
unreachable-requires-in-Err-Refused c =
    let page = c.requires.page in
    let so_far = c.commands.invariant.so_far page.printer page.dots page.between page.gives in
    let heard = rw c.in-One.is at (c.feed-heard.ensures.heard [] c.commands.invariant.stands) in
    let R : List ℕ → Type 0 = λ rows. Runs page.printer
    so_far.m c.in-One.command rows c.commands.self.emulator c.run.new.self (Err c.in-Err-Refused.field-0) in
    let runs = rw c.in-Err-Refused.field-0-is at
    (subst R c.rows.ensures (c.in-Err-Refused.ensures page.printer so_far.m so_far.shows)) in
    never_refused _ _ page.dots c.args.self.now c.commands.self c.args.bytes.now c.commands.rest.now
    c.feed-heard.result.used c.in-One.command _ _ so_far heard.whole page.gives page.between.blank runs.0

pub returns : goal.returns
returns c = λ p dots between gives.
    counts_page p dots c.args.self.now c.commands.self c.args.bytes.now c.commands.rest.now between
    (c.commands.invariant.so_far p dots between gives)
    (none_left c.commands.rest.now (eqb-true (length c.commands.rest.now) 0 (sym c.is_empty.ensures ∙ c.commands-test.false))) gives
