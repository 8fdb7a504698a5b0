use Rattle.weave_base.proofs.Parting.{on_err_behind}
use Rattle.page_writer.proofs.Outlets.{written_behind}
use Rattle.page_writer.proofs.waiting.send.Goals as goal

pub returns-then-bytes-ge-LEAST_WRITTEN-clause-ok : goal.returns-then-bytes-ge-LEAST_WRITTEN-clause-ok
returns-then-bytes-ge-LEAST_WRITTEN-clause-ok g c =
    written_behind _ _ _ _ _ _ c.in_ok-flush.ensures.ok c.in_ok-flush.ensures.empty c.put_all.ensures.ok

pub returns-then-bytes-ge-LEAST_WRITTEN-clause-part : goal.returns-then-bytes-ge-LEAST_WRITTEN-clause-part
returns-then-bytes-ge-LEAST_WRITTEN-clause-part g c =
    on_err_behind _ _ _ _ _ _ c.in_ok-flush.ensures.ok c.put_all.ensures.part
