use Rattle.std.proofs.Common.{◌≡◌, List, ℕ, refl, rules, arith, subst}
use Rattle.std.specs.Io.KnownBytes.{Appends}
use Rattle.std.proofs.KnownBytes.{Keeps-refl}
use Rattle.std.proofs.lemmas.Grind.{common_steps}
use Rattle.std.proofs.lemmas.Result.{err_from_is_err_and}
use Rattle.separation_definitions.specs.CanPrint.{CanPrint}
use Rattle.weave_base.specs.Parts.{AppendsPart}
use Rattle.driver_core.specs.Outside.{Outside, outside_of}
use Rattle.driver_core.specs.Trying.Summary.{stream_made}
use Rattle.driver_core.proofs.Trying.Made.{ReadsMade, reads_made, stands_for, trial_line, trial_stopped}
use Rattle.driver_core.proofs.trial.pages.try_pages.Goals as goal

pub try_stream-requires-clause-printed : goal.try_stream-requires-clause-printed
try_stream-requires-clause-printed g c κs within = rw c.job_setup-how.ensures c.requires.printed

pub returns-in_err-totals : goal.returns-in_err-totals
returns-in_err-totals g c =
    let error = err_from_is_err_and c.from_residual.result c.from_residual.ensures.1 in
    let out : Outside = outside_of g.K.Sink.held g.K.Sink.faults c.args.out.now c.args.out.now in
    let can : CanPrint c.args.profile.now = stands_for c.profile.view_is c.checked_can_print.ensures c.requires.printed.checked in
    let reads : ReadsMade c.args.job.now c.args.profile.now =
    reads_made c.args.job.now c.args.profile.now c.requires.made can in
    let made : c.in-Ok.maker ≡ stream_made c.args.job.now c.args.profile.now = first_of (search rules, grind (arith, common_steps)) in
    rw error.1 (trial_stopped c.args.job.now c.args.profile.now out error.0 reads
    (rw (c.job_setup-how.ensures, made, ← error.2) at c.in_err-totals.ensures.err) (Keeps-refl (g.K.Sink.held c.args.out.now)))

pub returns-in-Ok-write_summary : goal.returns-in-Ok-write_summary
returns-in-Ok-write_summary g c =
    let can : CanPrint c.args.profile.now = stands_for c.profile.view_is c.checked_can_print.ensures c.requires.printed.checked in
    let reads : ReadsMade c.args.job.now c.args.profile.now =
    reads_made c.args.job.now c.args.profile.now c.requires.made can in
    let made : c.in-Ok.maker ≡ stream_made c.args.job.now c.args.profile.now = first_of (search rules, grind (arith, common_steps)) in
    let line = trial_line c.args.job.now c.args.profile.now c.in_ok-totals.totals can c.requires.printed.way reads
    (rw (c.job_setup-how.ensures, made) at c.in_ok-totals.ensures.ok) in
    let P : List ℕ → Type 0 = λ bytes. Appends (g.K.Sink.held c.args.out.now) (g.K.Sink.held c.write_summary.new.out) bytes in
    (line.0, subst P line.1 c.in-Ok-write_summary.ensures.ok)

pub returns : goal.returns
returns g c =
    let can : CanPrint c.args.profile.now = stands_for c.profile.view_is c.checked_can_print.ensures c.requires.printed.checked in
    let reads : ReadsMade c.args.job.now c.args.profile.now =
    reads_made c.args.job.now c.args.profile.now c.requires.made can in
    let made : c.in-Ok.maker ≡ stream_made c.args.job.now c.args.profile.now = first_of (search rules, grind (arith, common_steps)) in
    let line = trial_line c.args.job.now c.args.profile.now c.in_ok-totals.totals can c.requires.printed.way reads
    (rw (c.job_setup-how.ensures, made) at c.in_ok-totals.ensures.ok) in
    let P : List ℕ → Type 0 = λ bytes. AppendsPart (g.K.Sink.held c.args.out.now) (g.K.Sink.held c.write_summary.new.out) bytes in
    (refl, line.0, c.in-Err.ensures.cause.failed, subst P line.1 c.in-Err.ensures.part)
