use Rattle.page_writer.proofs.Dotless.{blank_behind, not_blank}
use Rattle.page_writer.proofs.blank.is_blank_rest.Goals as goal

pub returns-then-not-is_blank_block : goal.returns-then-not-is_blank_block
returns-then-not-is_blank_block c =
    not_blank 16 c.parts.rest.now c.parts.invariant c.in-Some.ensures.cases.0
    c.is_blank_block.ensures c.if-not-is_blank_block.true

pub parts-preserved : goal.parts-preserved
parts-preserved c =
    blank_behind 16 c.parts.rest.now c.parts.invariant c.in-Some.ensures.cases.0
    c.in-Some.ensures.cases.1 c.is_blank_block.ensures c.if-not-is_blank_block.false
