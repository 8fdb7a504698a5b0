-- The dots of a tile, lent ink by ink.
use Rattle.std.specs.Prelude.{ℕ, List, slice_set}
use Rattle.std.specs.Borrow.{Array, Fml, Lends, MutBor, u8}
use Rattle.dot_planes.specs.contracts.tiles.TileBits.{the_row}

-- the loan ends with the bytes of ink i in s set to those that r has last
abbrev pub LendsInk : MutBor (List (List ℕ)) → ℕ → MutBor (List ℕ) → Fml
LendsInk s i r = Lends the_row (Array u8 256) s r (slice_set s.now i)
