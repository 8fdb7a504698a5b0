use Rattle.std.proofs.Common.{◌≡◌, ◌+◌, ◌-◌, ◌/◌, ◌%◌, length, min, arith}
use Rattle.page_maker.proofs.Filling.{IsNextRun, filled_end, filled_step, next_run}
use Rattle.page_maker.proofs.lines.fill_line.Goals as goal

pub runs-preserved : goal.runs-preserved
runs-preserved c =
    let len = length c.runs.line in
    let run : IsNextRun c.args.unit c.runs.invariant.left c.runs.filled len c.runs.draws.state c.min-times.result =
    next_run c.args.unit c.runs.invariant.left c.runs.filled len c.runs.draws.state c.next.result c.min-times.result c.requires.some
    c.runs.invariant.whole c.runs-test.true c.next.ensures.byte
    (let e : c.min-times.result ≡ min (1 + c.next.result % 8) ((len - c.runs.filled) / c.args.unit) = omega arith in e) in
    filled_step c.args.unit c.args.draws.now.state c.args.line.now c.runs.line c.put_run.new.line c.runs.filled c.runs.draws.state
    c.next.new.self.state c.put_run.new.draws.state c.min-times.result c.requires.some c.runs.invariant c.runs-test.true run
    c.next.ensures.state c.put_run.ensures.state (omega arith) c.put_run.ensures.bytes

pub returns-clause-bytes : goal.returns-clause-bytes
returns-clause-bytes c = (filled_end c.args.unit c.args.draws.now.state c.args.line.now c.runs.line c.runs.filled c.runs.draws.state
    c.requires.some c.runs.invariant c.runs-test.false).0

pub returns-clause-state : goal.returns-clause-state
returns-clause-state c = (filled_end c.args.unit c.args.draws.now.state c.args.line.now c.runs.line c.runs.filled c.runs.draws.state
    c.requires.some c.runs.invariant c.runs-test.false).1
