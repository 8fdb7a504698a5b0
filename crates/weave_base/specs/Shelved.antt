-- A shelf in memory, which fails at the listed reads.
use Rattle.std.specs.Prelude.{ℕ, List, string_bytes}
use Rattle.weave_base.specs.Shelf.{NamedText}
use Rattle.weave_base.specs.declared.memory_shelf.ShelfFile.{ShelfFile}

-- A shelf in memory.
pub record MemoryTexts : Type 0 where
  -- the texts, of which the first of a name counts
  pub files : List NamedText
  -- how many reads there were, and how many of them failed
  pub calls : ℕ
  pub faults : ℕ
  -- the reads that fail, counted from 1
  pub fails : List ℕ

-- a file as its name and its bytes
abbrev pub named_text : ShelfFile → NamedText
named_text file = record { name = string_bytes file.name; bytes = file.bytes.items }
