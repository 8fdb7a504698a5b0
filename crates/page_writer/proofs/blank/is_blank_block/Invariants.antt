use Rattle.std.proofs.Common.{◌≡◌, ◌==◌, take}
use Rattle.std.specs.List.{list_all}
use Rattle.page_writer.proofs.blank.is_blank_block.Given as goal

abbrev pub invariant-bytes : goal.invariant-bytes
invariant-bytes g l = (l.any == 0) ≡ list_all (λ byte. byte == 0) (take l.k l.block)
