-- The amounts of a window, and the errors above it.
use Rattle.std.specs.Prelude.{ℕ, ℤ, pos, ◌+◌, ◌*◌, ◌/◌, ◌%◌, ◌^◌, ◌-ℤ◌, bit_xor, Bool, nat_lt, if◌then◌else◌}
use Rattle.diffusion_definitions.specs.Diffusion.{InRange}
use Rattle.plain_diffusion.specs.declared.fills.Above.{Above}
use Rattle.plain_diffusion.specs.declared.fills.Above.TheVariants.{Edges, Mixed}
use Rattle.plain_diffusion.specs.declared.fills.Amounts.{Amounts}
use Rattle.plain_diffusion.specs.declared.fills.Amounts.TheVariants as fill

-- a hash of a seed and a place, of 32 bits
unfoldable pub hash : ℕ → ℕ → ℕ → ℕ
hash seed x y =
    let n : ℕ = (((x * 2654435761) % 2 ^ 32 + (y * 2246822519) % 2 ^ 32) % 2 ^ 32 + (seed * 3266489917) % 2 ^ 32) % 2 ^ 32 in
    (bit_xor n (n / 2 ^ 15) * 668265263) % 2 ^ 32

-- the amount at column x and row y
abbrev pub amount_of : Amounts → ℕ → ℕ → ℕ
amount_of (fill.Mixed seed) x y = hash seed x y / 2 ^ 24
amount_of (fill.All amount) x y = amount

-- whether the bottom edges of the tiles above a window have a place
abbrev pub is_in_edges : ℕ → ℕ → ℕ → Bool
is_in_edges width t n = nat_lt (n + 56 + 2 * t) (64 * ((width + 125) / 64))

-- The errors above a window by y + 2 and x + 4. A hash takes the place modulo 65536.
abbrev pub above_of : Above → ℕ → ℕ → ℕ → ℤ
above_of (Edges error) width t n = if is_in_edges width t n then error else pos 0
above_of Mixed width t n = pos (hash 0 ((n + 65532) % 65536) ((t + 65534) % 65536) % 4080) -ℤ pos 2040

-- the error that the edges above have is in range
abbrev pub AboveInRange : Above → Type 0
AboveInRange (Edges error) = InRange error
AboveInRange Mixed = InRange (pos 0)
