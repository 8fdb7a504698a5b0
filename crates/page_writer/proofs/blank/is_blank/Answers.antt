use Rattle.page_writer.proofs.Dotless.{blank_behind, not_blank}
use Rattle.page_writer.proofs.blank.is_blank.Goals as goal

pub returns-then-not-is_blank_block : goal.returns-then-not-is_blank_block
returns-then-not-is_blank_block c =
    not_blank 64 c.blocks-2.rest.now c.blocks-2.invariant c.in-Some.ensures.cases.0
    c.is_blank_block.ensures c.if-not-is_blank_block.true

pub blocks-2-preserved : goal.blocks-2-preserved
blocks-2-preserved c =
    blank_behind 64 c.blocks-2.rest.now c.blocks-2.invariant c.in-Some.ensures.cases.0
    c.in-Some.ensures.cases.1 c.is_blank_block.ensures c.if-not-is_blank_block.false
