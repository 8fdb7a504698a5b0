use Rattle.std.proofs.Common.{arith, length-drop}
use Rattle.std.proofs.lemmas.List.{take_all}
use Rattle.escp2_reader.proofs.Hearing.{heard-behind, on_fault}
use Rattle.escp2_reader.proofs.RowsHeard.{begin-last, rows-begin}
use Rattle.escp2_reader.proofs.reader.JobReader.begin_rows.Goals as goal

pub returns-clause-heard : goal.returns-clause-heard
returns-clause-heard c = λ sofar begins. heard-behind _ _ _ _ _ sofar c.args.piece.now _
    (take_all _ _ (omega (arith, length-drop c.args.used c.args.piece.now)))
    (c.feed_rows-heard.ensures.heard _
    (rows-begin _ sofar c.args.piece.now begins c.requires.within (c.begin-reader.ensures.anew 8) c.requires.none))

pub returns-clause-last : goal.returns-clause-last
returns-clause-last c =
    on_fault c.feed_rows-heard.result.state c.feed_rows-heard.ensures.last (begin-last c.begin-reader.result c.args.used c.args.piece.now
    (take_all _ _ (omega (arith, length-drop c.args.used c.args.piece.now))) c.requires.within
    (c.begin-reader.ensures.anew 8) c.requires.none)
