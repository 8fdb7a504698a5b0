use Rattle.buffered_bytes.specs.Outside.{outside_of}
use Rattle.driver_answer.specs.Answers.{line_of}
use Rattle.finish_core.proofs.Promised.{promises, run_last}
use Rattle.finish_core.specs.Sides.{Sides, texts_of}
use Rattle.finish_core.proofs.running.run.Goals as goal

pub returns-clause-promises : goal.returns-clause-promises
returns-clause-promises g c =
    let a = c.work-answer.result in
    let s : Sides = record {
      input = outside_of g.S.Source.left g.S.Source.faults c.args.input.now c.work-answer.new.input;
      out = outside_of g.K.Sink.held g.K.Sink.faults c.args.out.now c.work-answer.new.out;
      err = outside_of g.E.Sink.held g.E.Sink.faults c.args.err.now c.work-answer.new.err;
      shelf = texts_of g.L.Shelf.files g.L.Shelf.faults c.args.shelf.now c.work-answer.new.shelf;
    } in
    rw c.status.ensures
    (promises c.args.words.now _ a
    (run_last c.args.words.now s (g.E.Sink.held c.tell_answer.new.err) (g.E.Sink.faults c.tell_answer.new.err) (line_of a) a
    (record { early = c.work-answer.ensures.later; late = c.tell_answer.ensures.later; tells = c.tell_answer.ensures.tells })
    c.work-answer.ensures.outcome))
