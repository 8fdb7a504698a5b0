use Rattle.std.proofs.Common.{◌≡◌, ◌==◌, length}
use Rattle.std.specs.List.{list_all}
use Rattle.page_writer.proofs.blank.is_blank.Given as goal

abbrev pub invariant-blocks-2 : goal.invariant-blocks-2
invariant-blocks-2 l = list_all (λ byte. byte == 0) l.row ≡ list_all (λ byte. byte == 0) l.rest

abbrev pub decreases-blocks-2 : goal.decreases-blocks-2
decreases-blocks-2 l = length l.rest
