use Rattle.std.proofs.Common.{ℕ, ◌<◌, ◌≤◌}
use Rattle.dot_planes.specs.Tables.{AmountTable}
use Rattle.tile_border.specs.Works.{Border, HasInks, IsWholeInk, SameInk, Works}
use Rattle.tile_border.proofs.working.work_inks.Given as goal

abbrev pub invariant-loop-ink : goal.invariant-loop-ink
invariant-loop-ink g l =
    let old : Border = record { side = l.initial.right; bottom = l.initial.bottom; corner = l.initial.corner; bits = l.initial.bits } in
    let now : Border = record { side = l.right; bottom = l.bottom; corner = l.corner; bits = l.bits } in
    let rows : AmountTable = g.A.TileRows.table l.rows in
    record {
      inks : HasInks rows.inks now;
      done : (i : ℕ) → i < l.ink → Works l.kernel rows l.place i old now;
      whole : (i : ℕ) → i < l.ink → IsWholeInk i now;
      rest : (i : ℕ) → l.ink ≤ i → SameInk i old now;
    }
