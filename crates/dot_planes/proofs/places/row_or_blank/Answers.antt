use Rattle.std.proofs.Common.{◌≡◌, ℕ, List, ap, arith, get_or, replicate, sym, take, ◌∙◌}
use Rattle.std.proofs.lemmas.List.{take-replicate}
use Rattle.base_definitions.specs.Limits.{most_row_bytes}
use Rattle.dot_planes.proofs.Reached.{blank_behind}
use Rattle.dot_planes.proofs.RowBytes.{zero_at}
use Rattle.dot_planes.proofs.places.row_or_blank.Goals as goal

pub returns-else-start-bytes-clause-row : goal.returns-else-start-bytes-clause-row
returns-else-start-bytes-clause-row c = λ n more place room.
    take-replicate c.args.len most_row_bytes 0 c.requires.most
    ∙ sym (blank_behind c.args.len n more c.args.bytes.now (omega (arith, place, c.if-start-bytes.false)) (omega (arith, place, room)))

pub returns-else-start-bytes-clause-bytes : goal.returns-else-start-bytes-clause-bytes
returns-else-start-bytes-clause-bytes c = λ k.
    let blank : get_or (take c.args.len (replicate {A = ℕ} most_row_bytes 0)) k 0 ≡ 0 =
    ap (λ (bs : List ℕ). get_or bs k 0) (take-replicate c.args.len most_row_bytes 0 c.requires.most) ∙ zero_at c.args.len k in
    omega (arith, blank)
