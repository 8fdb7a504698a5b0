use Rattle.std.proofs.Common.{◌≡◌, ◌≤◌, ◌++◌, List, length, arith, subst}
use Rattle.page_halftoner.specs.Screenings.{screening_of}
use Rattle.driver_core.specs.Outside.{meters_of, outside_of}
use Rattle.spool_queue.specs.Jobs.{AreSent, Stream, count_sent, sent_by}
use Rattle.spool_queue.specs.Passes.{taken_of}
use Rattle.spool_queue.specs.declared.job.SpoolJob.{SpoolJob}
use Rattle.spool_core.specs.Senders.{lists_in}
use Rattle.spool_core.proofs.Runs.{came_to, few_done, plain_jobs}
use Rattle.spool_core.proofs.running.run_desk.Goals as goal

pub answer_for-answer-requires-clause-few : goal.answer_for-answer-requires-clause-few
answer_for-answer-requires-clause-few g c =
    let sent = lists_in c.args.desk.works.items in
    let taken = taken_of c.print_jobs-printed.new.printer in
    let le : length taken ≤ count_sent sent = subst (λ (ls : List (List Stream)). length taken ≤ count_sent ls) c.send_all-ended.ensures.sent.sent c.settle.ensures.few in
    rw c.deref.ensures.value
    (few_done (count_sent sent) c.print_jobs-printed.ensures.prints le (omega (arith, c.requires.desk.count_is, c.requires.desk.few)))

pub answer_for-answer-requires-clause-plain : goal.answer_for-answer-requires-clause-plain
answer_for-answer-requires-clause-plain g c =
    rw c.deref.ensures.value
    (plain_jobs c.print_jobs-printed.result c.print_jobs-printed.ensures.prints c.print_jobs-printed.ensures.fine)

pub returns : goal.returns
returns g c =
    let sent = lists_in c.args.desk.works.items in
    let taken = taken_of c.print_jobs-printed.new.printer in
    let was = c.send_all-ended.ensures.sent.sent in
    let S : List (List Stream) → Type 0 = λ ls. (rest : List SpoolJob) × AreSent (sent_by ls) (taken ++ rest) in
    let T : List (List Stream) → Type 0 = λ ls. length taken ≡ count_sent ls → AreSent (sent_by ls) taken in
    came_to c.print_jobs-printed.result c.args.how.now.profile (screening_of c.args.how.now.kernel c.args.how.now.grain) sent taken
    (outside_of g.K.Sink.held g.K.Sink.faults c.args.out.now c.print_jobs-printed.new.out)
    (meters_of (λ m. (goal.Meter-dyn g (m.vtable, m.value)).account m.value) c.args.meters.now.items c.print_jobs-printed.new.meters.items)
    c.print_jobs-printed.new.done.items c.answer_for-answer.result c.args.desk.count
    c.print_jobs-printed.ensures.prints c.print_jobs-printed.ensures.every c.requires.desk.count_is c.print_jobs-printed.ensures.fine
    (rw c.deref.ensures.value at c.answer_for-answer.ensures.ran) c.answer_for-answer.ensures.stopped
    c.print_jobs-printed.ensures.write c.print_jobs-printed.ensures.cause
    (subst S was c.settle.ensures.rest) (subst T was c.settle.ensures.all)
