use Rattle.std.proofs.Common.{◌≡◌, ◌==◌, length}
use Rattle.std.specs.List.{list_all}
use Rattle.page_writer.proofs.blank.is_blank_rest.Given as goal

abbrev pub invariant-parts : goal.invariant-parts
invariant-parts l = list_all (λ byte. byte == 0) l.bytes ≡ list_all (λ byte. byte == 0) l.rest

abbrev pub decreases-parts : goal.decreases-parts
decreases-parts l = length l.rest
