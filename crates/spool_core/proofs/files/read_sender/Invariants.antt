use Rattle.std.proofs.Common.{◌≡◌, ◌+◌, ◌≤◌, take}
use Rattle.spool_words.specs.Meaning.{names_from}
use Rattle.spool_core.specs.Files.{HasStreams, bytes_in, most_files}
use Rattle.spool_core.proofs.files.read_sender.Given as goal

abbrev pub invariant-loop-i : goal.invariant-loop-i
invariant-loop-i g l = record {
  streams : HasStreams (g.F.Shelf.files l.fn.shelf) l.fn.taken (take l.i (names_from l.words l.sender)) l.list.items;
  taken_is : l.taken ≡ l.fn.taken + bytes_in l.list.items;
  most : l.taken ≤ most_files;
  later : g.F.Shelf.faults l.fn.shelf ≤ g.F.Shelf.faults l.shelf;
  stay : g.F.Shelf.files l.shelf ≡ g.F.Shelf.files l.fn.shelf;
}
