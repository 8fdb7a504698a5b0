-- Packets at the front of a row.
use Rattle.std.specs.Prelude.{◌≡◌, ℕ, List, ◌++◌}
use Rattle.escp2_definitions.specs.RowCode.{IsRowPacket, RowPacket, packet_row}

-- The packet may stand at the front of the row.
pub record MayStand (packet : RowPacket) (row : List ℕ) : Type 0 where
  pub allowed : IsRowPacket packet
  pub rest : List ℕ
  pub is : row ≡ packet_row packet ++ rest
