use Rattle.std.proofs.Common.{arith, ap, Some}
use Rattle.spool_core.proofs.Jobs.{stream_printed}
use Rattle.spool_core.proofs.printing.print_bytes.Goals as goal

pub returns-clause-prints : goal.returns-clause-prints
returns-clause-prints g c =
    stream_printed c.args.how.now.way
    (record { before = Some c.make-input.result; now = Some c.print_stream.new.input; faults_before = 0; faults_now = 0 })
    c.requires.way_is (ap Some c.make-input.ensures) (λ risen. omega (arith, risen.rose)) c.print_stream.ensures.outcome
