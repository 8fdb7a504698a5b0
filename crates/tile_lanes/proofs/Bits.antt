-- A dot as a number.
use Rattle.std.proofs.Common.{◌≡◌, Bool, true, false, refl}
use mir.Val.{bool_byte}
use Rattle.tile_lanes.specs.Rows.{bit_of}

pub bit_is : (b : Bool) → bool_byte b ≡ bit_of b
bit_is true = refl
bit_is false = refl
