use Rattle.std.proofs.Common.{◌≡◌, ◌≤◌, map}
use Rattle.spool_words.specs.Meaning.{names_of}
use Rattle.spool_core.specs.Files.{most_files}
use Rattle.spool_core.proofs.Reading.{ReadSoFar}
use Rattle.spool_core.proofs.files.read_files.Given as goal

abbrev pub invariant-loop-i : goal.invariant-loop-i
invariant-loop-i g l = record {
  read : ReadSoFar (g.F.Shelf.files l.fn.shelf) (names_of l.words) (map (λ list. list.items) l.lists.items) l.i l.taken;
  most : l.taken ≤ most_files;
  later : g.F.Shelf.faults l.fn.shelf ≤ g.F.Shelf.faults l.shelf;
  stay : g.F.Shelf.files l.shelf ≡ g.F.Shelf.files l.fn.shelf;
}
