use Rattle.std.proofs.Common.{◌+◌, ap, arith, sym, ◌∙◌, Err}
use Rattle.pwg_stream.specs.Reading.{lines_left_in}
use Rattle.pwg_stream.proofs.Faults.{line_fault}
use Rattle.pwg_stream.proofs.Taken.{is_read, same_error, takes_no_group}
use Rattle.pwg_stream.proofs.reader.PageReader.next_line.Goals as goal

pub returns-in-Err-clause-input : goal.returns-in-Err-clause-input
returns-in-Err-clause-input g c = λ going.
    let now = c.in-Some-lines.lines in
    let counted = c.args.self.now.counted now c.in-Some-lines.is in
    rw c.stop_at-stop.ensures
    (line_fault c.args.self.now now (g.S.Source.left c.args.source.now) (c.args.self.now.given + 1) c.in-Err.fault c.in-Some-lines.is
    (omega (arith, c.requires, ap lines_left_in c.in-Some-lines.is)) (omega (arith, counted)) c.in-Err.ensures.input)

pub returns-in-Err-clause-taken : goal.returns-in-Err-clause-taken
returns-in-Err-clause-taken g c = λ going is.
    let read = is_read c.args.self.now.page (c.args.self.now.given + 1) c.in-Err.fault (sym c.stop_at-stop.ensures ∙ same_error is) in
    takes_no_group c.args.self.now c.in-Some-lines.lines _ _ c.in-Some-lines.is (c.in-Err.ensures.part (ap Err read))
