use Rattle.std.proofs.Common.{List, [], refl, sym, subst}
use Rattle.driver_core.specs.Outside.{meters_of, outside_of, texts_of}
use Rattle.page_halftoner.specs.Screenings.{screening_of}
use Rattle.spool_core.specs.Outcome.{SpoolOutcome, SpoolOutside}
use Rattle.spool_core.specs.Prepared.{sent_in}
use Rattle.spool_core.specs.declared.report.Ran.{Ran}
use Rattle.spool_core.proofs.Runs.{prints_none, with_files}
use Rattle.spool_core.proofs.running.work.Goals as goal

pub returns-in-Ok-clause-outcome : goal.returns-in-Ok-clause-outcome
returns-in-Ok-clause-outcome g c =
    let ready = c.in-Ok.ensures.prepared in
    with_files c.args.words.now ready.request
    (record {
      shelf = texts_of g.F.Shelf.files g.F.Shelf.faults c.args.shelf.now c.prepare.new.shelf;
      out = outside_of g.K.Sink.held g.K.Sink.faults c.args.out.now c.perform.new.out;
      meters = meters_of (λ m. (goal.Meter-dyn g (m.vtable, m.value)).account m.value) c.args.meters.now.items c.perform.new.meters.items;
    })
    c.perform.result.done.items c.in-Ok.prepared.how.profile
    (screening_of c.in-Ok.prepared.how.kernel c.in-Ok.prepared.how.grain) (sent_in c.in-Ok.prepared) c.perform.result.answer
    ready.means ready.screening_is ready.profile_is ready.files c.perform.ensures

pub returns-in-Err-clause-outcome : goal.returns-in-Err-clause-outcome
returns-in-Err-clause-outcome g c =
    let o : SpoolOutside = record {
      shelf = texts_of g.F.Shelf.files g.F.Shelf.faults c.args.shelf.now c.prepare.new.shelf;
      out = outside_of g.K.Sink.held g.K.Sink.faults c.args.out.now c.args.out.now;
      meters = meters_of (λ m. (goal.Meter-dyn g (m.vtable, m.value)).account m.value) c.args.meters.now.items c.args.meters.now.items;
    } in
    subst (λ (done : List Ran). SpoolOutcome c.args.words.now o done c.in-Err.answer) (sym c.new.ensures.items)
    (c.in-Err.ensures.answered o.out o.meters (prints_none (g.K.Sink.held c.args.out.now) (g.K.Sink.faults c.args.out.now) o.meters [] refl refl))
