use Rattle.std.proofs.Common.{◌/◌, ◌%◌, ◌-◌, ◌==◌, ℕ, List, ap, ◌∙◌, get_or}
use Rattle.std.proofs.lemmas.Nat.Bits.{shr_and_one}
use Rattle.dot_planes.specs.Tables.{dot, row_dot}
use Rattle.dot_planes.proofs.planes.Planes.dot.Goals as goal

pub returns : goal.returns
unfolding dot
returns c =
    ap (λ m. m == 1) (shr_and_one (get_or c.bytes_of_row.result.now (c.args.x / 8) 0) (7 - c.args.x % 8))
    ∙ ap (λ (bs : List ℕ). row_dot bs c.args.x) c.bytes_of_row.ensures.is
