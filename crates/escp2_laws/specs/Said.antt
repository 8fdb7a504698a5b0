-- Jobs as lists of commands.
use Rattle.std.specs.Prelude.{ℕ, ◌+◌, List, [], ◌∷◌, length}
use Rattle.std.specs.List.{flat_map, AllByRecursion}
use Rattle.escp2_definitions.specs.declared.command.Command.{Command}
use Rattle.escp2_definitions.specs.Commands.{Entry, Spells}

-- A command, the rows of a raster, and the bytes that spell them.
pub record Said : Type 0 where
  pub command : Command
  pub rows : List ℕ
  pub bytes : List ℕ

-- each is spelled by its bytes
abbrev pub AllSaid : List Said → Type 0
AllSaid job = AllByRecursion (λ s. Spells s.command s.rows s.bytes) job

-- their bytes, one after another
abbrev pub said_bytes : List Said → List ℕ
said_bytes job = flat_map (λ s. s.bytes) job

-- the entries of a job whose first byte is at this offset
abbrev pub entries_of : ℕ → List Said → List Entry
entries_of at [] = []
entries_of at (s ∷ job) = record { at = at; command = s.command; rows = s.rows } ∷ entries_of (at + length s.bytes) job
