use Rattle.driver_core.proofs.dots.play.Goals as goal

pub returns-in-Err-Job : goal.returns-in-Err-Job
returns-in-Err-Job g c = rw c.in-Err-Job.field-0-is at c.in-Err-Job.ensures

pub returns-in-Err-Read : goal.returns-in-Err-Read
returns-in-Err-Read g c = rw c.in-Err-Read.field-0-is at c.in-Err-Read.ensures

pub returns-in-Err-Write : goal.returns-in-Err-Write
returns-in-Err-Write g c = rw c.in-Err-Write.field-0-is at c.in-Err-Write.ensures

pub returns-in-Err-Memory : goal.returns-in-Err-Memory
returns-in-Err-Memory g c = rw c.in-Err-Memory.field-0-is at c.in-Err-Memory.ensures
