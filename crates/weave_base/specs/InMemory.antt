-- A source and a sink in memory, which fail and move short pieces as listed.
use Rattle.std.specs.Prelude.{ℕ, ◌-◌, ◌%◌, min, List, [], ◌∷◌, length, slice_index}

-- A source in memory.
pub record MemoryInput : Type 0 where
  -- the bytes that are left
  pub left : List ℕ
  -- how many reads there were, and how many of them failed
  pub calls : ℕ
  pub faults : ℕ
  -- the most bytes that a read gives, read by read and then from the first again
  pub pieces : List ℕ
  -- the reads that fail, counted from 1
  pub fails : List ℕ

-- A sink in memory.
pub record MemoryOutput : Type 0 where
  -- the bytes that it holds, and how many it may hold
  pub held : List ℕ
  pub room : ℕ
  -- how many writes there were, and how many of them failed
  pub calls : ℕ
  pub faults : ℕ
  -- the most bytes that a write takes, write by write and then from the first again
  pub takes : List ℕ
  -- the writes that fail, counted from 1
  pub fails : List ℕ

-- how many bytes call `call`, counted from 1, moves where `most` could move: the bounds hold in turn, none where the
-- list is empty
abbrev pub bytes_moved : List ℕ → ℕ → ℕ → ℕ
bytes_moved [] call most = most
bytes_moved (first ∷ others) call most =
    min most (slice_index (first ∷ others) ((call - 1) % length (first ∷ others)))
