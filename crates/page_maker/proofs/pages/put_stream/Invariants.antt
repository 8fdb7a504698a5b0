use Rattle.std.proofs.Common.{◌≡◌, List, ℕ, ◌++◌}
use Rattle.pwg_definitions.specs.Stream.{sync_word}
use Rattle.page_maker.specs.Pieces.{left_of, most_left}
use Rattle.page_maker.proofs.pages.put_stream.Given as goal

abbrev pub invariant-pieces : goal.invariant-pieces
invariant-pieces l = record {
  whole : l.out.items ++ left_of l.pieces ≡ l.fn.out.items ++ sync_word ++ left_of l.fn.pieces;
  part : (part : List ℕ) × (l.out.items ≡ l.fn.out.items ++ part);
}

abbrev pub decreases-pieces : goal.decreases-pieces
decreases-pieces l = most_left l.pieces
