use Rattle.std.proofs.Common.{◌==◌, ap, ◌∙◌}
use Rattle.std.specs.List.{list_all}
use Rattle.std.proofs.lemmas.List.{take_all}
use Rattle.page_writer.proofs.Dotless.{blank_more}
use Rattle.page_writer.proofs.blank.is_blank_tail.Goals as goal

pub bytes-preserved : goal.bytes-preserved
bytes-preserved c =
    ap (λ n. n == 0) c.max-most.ensures ∙ blank_more _ _ _ c.bytes-test.true c.bytes.invariant

pub returns : goal.returns
returns c = c.bytes.invariant ∙ ap (list_all (λ byte. byte == 0)) (take_all _ _ c.bytes-test.false)
