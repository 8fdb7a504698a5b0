use Rattle.std.proofs.Common.{◌≡◌, ◌<◌, length}
use Rattle.page_writer.specs.Heads.{HeadPage}
use Rattle.page_writer.specs.Pieces.{Each, IsAssigned, IsRoomy}
use Rattle.page_writer.proofs.batches.assign.Given as goal

abbrev pub invariant-pieces : goal.invariant-pieces
invariant-pieces g l = record {
  many : length l.coders.items ≡ length l.fn.coders.items;
  assigned : (page : HeadPage)
      → Each (λ k coder. IsRoomy page l.run.each (g.S.Strokes.page coder.page.now) coder.piece) l.fn.coders.items
      → Each (λ k coder. IsRoomy page l.run.each (g.S.Strokes.page coder.page.now) coder.piece
      × (k < l.i → IsAssigned page l.run k (g.S.Strokes.page coder.page.now) coder.piece)) l.coders.items;
}
