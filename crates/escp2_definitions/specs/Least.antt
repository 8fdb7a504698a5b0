-- The shortest code of a row (ESC/P Reference Manual, run length encoding of `ESC .`).
use Rattle.std.specs.Prelude.{ℕ, zero, suc, ◌+◌, ◌-◌, ◌==◌, List, [], ◌∷◌, ◌++◌, length, take, drop, min, map, slice_index, slice_index_or}
use Rattle.std.specs.List.{flat_map, filter, take_while}
use Rattle.escp2_definitions.specs.RowCode.{RowPacket, packet_code, packet_row}
use Rattle.escp2_definitions.specs.RowCode.RowPacket.{Bytes, Repeat}

-- how many bytes from the front on are equal, up to 128
unfoldable pub equal_at : List ℕ → ℕ
equal_at row = min 128 (length (take_while (λ byte. byte == slice_index row 0) row))

-- a byte n times down to 2 times
unfoldable pub runs : ℕ → ℕ → List RowPacket
runs zero byte = []
runs (suc zero) byte = []
runs (suc (suc n)) byte = Repeat (suc (suc n)) byte ∷ runs (suc n) byte

-- the first n bytes of a row down to the first one
unfoldable pub literals : ℕ → List ℕ → List RowPacket
literals zero row = []
literals (suc n) row = Bytes (take (suc n) row) ∷ literals n row

-- The packets that may stand at the front of a row: the runs, the longest first, and then the literals, the longest
-- first.
unfoldable pub packets_at : List ℕ → List RowPacket
packets_at row = runs (equal_at row) (slice_index row 0) ++ literals (min 128 (length row)) row

-- the bytes of a packet, and what the rest of the row behind it costs, by the costs from the second byte of the row on
unfoldable pub cost_from : List ℕ → RowPacket → ℕ
cost_from behind packet = length (packet_code packet) + slice_index behind (length (packet_row packet) - 1)

-- the least of some numbers
unfoldable pub least : List ℕ → ℕ
least [] = 0
least (n ∷ []) = n
least (n ∷ m ∷ ns) = min n (least (m ∷ ns))

-- The fewest bytes that code a row from each of its places on. Behind the last byte there is nothing to code.
unfoldable pub costs : List ℕ → List ℕ
costs [] = 0 ∷ []
costs (b ∷ row) = least (map (cost_from (costs row)) (packets_at (b ∷ row))) ∷ costs row

-- the first packet that makes the row cost as little as it can
unfoldable pub least_packet : List ℕ → RowPacket
least_packet row =
    slice_index_or (filter (λ packet. cost_from (drop 1 (costs row)) packet == slice_index (costs row) 0) (packets_at row)) 0 (Bytes [])

-- the packets of a row, of which there may be `most`
unfoldable pub packets_from : ℕ → List ℕ → List RowPacket
packets_from most [] = []
packets_from zero (b ∷ row) = []
packets_from (suc most) (b ∷ row) =
    let packet = least_packet (b ∷ row) in
    packet ∷ packets_from most (drop (length (packet_row packet)) (b ∷ row))

-- the bytes that are written for a row
unfoldable pub least_row : List ℕ → List ℕ
least_row row = flat_map packet_code (packets_from (length row) row)
