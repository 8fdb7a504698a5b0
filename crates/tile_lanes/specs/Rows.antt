-- The places of a tile that have a pixel, and their dots.
use Rattle.std.specs.Prelude.{Bool, ◌&&◌, ℕ, nat_le, if◌then◌else◌, ◌+◌, ◌-◌, ◌*◌, ◌/◌, ◌%◌, ◌^◌, List, slice_index}
use Rattle.diffusion_definitions.specs.Diffusion.{Errors, Plane, Table, inside, is_dot, value_at}

-- whether band j has a pixel in its row r at u, which is x + 2 r
abbrev pub is_place : Plane → ℕ → ℕ → ℕ → Bool
is_place p j r u = nat_le (2 * r) u && inside p (32 * j + r) (u - 2 * r)

-- whether a dot is shown there
abbrev pub shown : Table → Plane → Errors → ℕ → ℕ → ℕ → Bool
shown k p e j r u = is_place p j r u && is_dot (value_at k p e (32 * j + r) (u - 2 * r))

-- a dot as a number
abbrev pub bit_of : Bool → ℕ
bit_of b = if b then 1 else 0

-- bit n of a list of bytes, the highest of each byte first
abbrev pub bit : List ℕ → ℕ → ℕ
bit bytes n = slice_index bytes (n / 8) / 2 ^ (7 - n % 8) % 2
