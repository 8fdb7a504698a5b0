use Rattle.std.proofs.Common.{◌≡◌, ◌∙◌, Bor, ℕ, List, [], ap, arith, sym, get_or}
use Rattle.std.proofs.lemmas.List.{get_or_past}
use Rattle.dot_planes.specs.Tables.{row_dot}
use Rattle.dot_planes.proofs.PutTiles.{inks_more, blank_bytes, no_dot}
use Rattle.dot_planes.proofs.planes.Planes.put_tile.Goals as goal
use Rattle.dot_planes.proofs.planes.Planes.put_tile.Goals.{then-ink-inks, else-ink-inks}

-- what an ink gets: its own dots, or none where the tile has no such ink
ink_dots : (c : goal.After-put_tile_ink) (k : ℕ)
    → row_dot c.if-ink-inks.bytes.now k ≡ row_dot (get_or c.args.d.now.bits c.loop-ink.ink []) k
ink_dots c k = elim c.if-ink-inks.branch [
  | then-ink-inks w ↦ ap (λ (b : Bor (List ℕ)). row_dot b.now k) w.bytes-is ∙ ap (λ (bytes : List ℕ). row_dot bytes k) w.ink-bytes.ensures
  | else-ink-inks w ↦
      ap (λ (b : Bor (List ℕ)). row_dot b.now k) w.bytes-is
      ∙ blank_bytes 256 k
      ∙ sym (ap (λ (bytes : List ℕ). row_dot bytes k) (get_or_past c.args.d.now.bits c.loop-ink.ink []
      (omega (arith, w.if-ink-inks.false, c.inks.ensures.is))) ∙ no_dot k)
]

pub loop-ink-preserved : goal.loop-ink-preserved
loop-ink-preserved c = inks_more c.args.self.now c.loop-ink.self
    c.put_tile_ink.new.self c.args.at c.args.height c.args.d.now.place c.loop-ink.ink _ c.args.d.now.bits
    c.requires.slab (ink_dots c) c.loop-ink.invariant c.put_tile_ink.ensures
