use Rattle.std.proofs.Common.{◌∙◌, List, ℕ, [], ap, arith, sym}
use Rattle.std.proofs.lemmas.List.{get_or_past}
use Rattle.dot_planes.specs.Tables.{row_dot}
use Rattle.dot_planes.proofs.PutTiles.{blank_bytes, no_dot}
use Rattle.dot_planes.proofs.band_rows.tile_ink.Goals as goal

pub returns-else-ink-inks : goal.returns-else-ink-inks
returns-else-ink-inks c = λ k.
    blank_bytes 256 k
    ∙ sym (ap (λ (bs : List ℕ). row_dot bs k) (get_or_past c.args.tile.now.bits c.args.ink []
    (omega (arith, c.if-ink-inks.false, c.inks.ensures.is))) ∙ no_dot k)
