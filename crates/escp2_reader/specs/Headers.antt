-- What the gathered bytes of a command are.
use Rattle.std.specs.Prelude.{◌≡◌, ℕ, ◌+◌, ◌-◌, ◌≤◌, List, [], ◌∷◌, ◌++◌, length, drop, slice_index, Result, Ok, Err}
use Rattle.std.specs.Borrow.{Bor}
use Rattle.escp2_definitions.specs.declared.command.RasterHead.{RasterHead}
use Rattle.escp2_definitions.specs.Commands.{Heard, command_bytes, last_column, raster_rows, sized, two_bytes}
use Rattle.escp2_definitions.specs.Commands.Heard.{One, Part, Wrong}
use Rattle.escp2_reader.specs.declared.headers.HeaderState.{HeaderState}
use Rattle.escp2_reader.specs.declared.headers.HeaderState.TheVariants as header

-- The numbers of a raster that its rows depend on are in range.
pub record HasRows (raster : RasterHead) : Type 0 where
  pub form : raster.c ≤ 1
  pub some : 1 ≤ raster.m
  pub narrowest : 1 ≤ raster.n
  pub widest : raster.n ≤ last_column

-- A part of a command, or of the numbers of a raster: with the first `at` bytes there are at most 8 in all, and 7
-- of a raster.
pub record IsShort (at : ℕ) (bytes : List ℕ) : Type 0 where
  pub short : length bytes + at ≤ 8
  pub raster : slice_index bytes (1 - at) ≡ 0x2E → length bytes + at ≤ 7

-- After the first `at` bytes come the numbers of a raster, and then its rows.
pub record IsRaster (raster : RasterHead) (at : ℕ) (read : List ℕ → Heard) (bytes : List ℕ) : Type 0 where
  pub has : HasRows raster
  pub least : 8 ≤ length bytes + at
  pub escaped : slice_index bytes (1 - at) ≡ 0x2E
  pub reads : (more : List ℕ) → read (bytes ++ more) ≡ raster_rows raster (drop (8 - at) bytes ++ more)

-- the bytes after the first `at` of a command are read as this
abbrev pub IsRead : HeaderState → ℕ → (List ℕ → Heard) → List ℕ → Type 0
IsRead header.Part at read bytes = (read bytes ≡ Part) × IsShort at bytes
IsRead (header.Whole command) at read bytes = read bytes ≡ One command [] (length (command_bytes command))
IsRead (header.Rows raster) at read bytes = IsRaster raster at read bytes
IsRead (header.Fault place cause) at read bytes = read bytes ≡ Wrong place cause

-- the command of this letter after `ESC (` has a length of `wanted`, where this reads what follows `ESC`
abbrev pub HasLength : (List ℕ → Heard) → ℕ → ℕ → Type 0
HasLength read letter wanted = (rest : List ℕ)
    → read (0x28 ∷ letter ∷ rest) ≡ sized wanted (λ bytes. read (0x28 ∷ letter ∷ wanted ∷ 0 ∷ bytes)) rest

-- a length of `wanted` and the bytes after it; or else what the reading of every command of that length ends with
abbrev pub IsLength : Result (Bor (List ℕ)) HeaderState → ℕ → List ℕ → Type 0
IsLength (Ok rest) wanted bytes = bytes ≡ wanted ∷ 0 ∷ rest.now
IsLength (Err end) wanted bytes = (read : List ℕ → Heard) (letter : ℕ) → HasLength read letter wanted → IsRead end 1 read (0x28 ∷ letter ∷ bytes)

-- a length of 1 and a byte; or else what the reading of every command of one byte ends with
abbrev pub IsByte : Result ℕ HeaderState → List ℕ → Type 0
IsByte (Ok n) bytes = bytes ≡ 1 ∷ 0 ∷ n ∷ drop 3 bytes
IsByte (Err end) bytes = (read : List ℕ → Heard) (letter : ℕ) → HasLength read letter 1 → read (0x28 ∷ letter ∷ 1 ∷ 0 ∷ []) ≡ Part
    → IsRead end 1 read (0x28 ∷ letter ∷ bytes)

-- a length of 2 and a number; or else what the reading of every command of one number ends with
abbrev pub IsNumber : Result ℕ HeaderState → List ℕ → Type 0
IsNumber (Ok n) bytes = bytes ≡ 2 ∷ 0 ∷ (two_bytes n ++ drop 4 bytes)
IsNumber (Err end) bytes = (read : List ℕ → Heard) (letter : ℕ) → HasLength read letter 2 → read (0x28 ∷ letter ∷ 2 ∷ 0 ∷ []) ≡ Part
    → ((low : ℕ) → read (0x28 ∷ letter ∷ 2 ∷ 0 ∷ low ∷ []) ≡ Part) → IsRead end 1 read (0x28 ∷ letter ∷ bytes)
