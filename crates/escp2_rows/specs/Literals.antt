-- The longest literal at the front of a row that costs least, and the first packet of a row.
use Rattle.std.specs.Prelude.{◌≡◌, ℕ, ◌+◌, ◌*◌, ◌<◌, ◌≤◌, List, length, take, drop}
use Rattle.escp2_definitions.specs.Least.{least_packet}
use Rattle.escp2_definitions.specs.RowCode.{packet_code, packet_row}
use Rattle.escp2_rows.specs.Passing.{cost}

-- A literal of n bytes at the front of a row costs least, and none that is longer does.
pub record IsLongest (row : List ℕ) (n : ℕ) : Type 0 where
  pub some : 1 ≤ n
  pub few : n ≤ 128
  pub within : n ≤ length row
  pub is : cost row ≡ 1 + n + cost (drop n row)
  pub longest : (k : ℕ) → n < k → k ≤ 128 → k ≤ length row → cost row < 1 + k + cost (drop k row)

-- All literals at the front of a row that have more bytes than this cost more.
pub record LongestSoFar (row : List ℕ) (count : ℕ) : Type 0 where
  pub few : count ≤ 128
  pub within : count ≤ length row
  pub longer : (k : ℕ) → count < k → k ≤ 128 → k ≤ length row → cost row < 1 + k + cost (drop k row)

-- The bytes begin with the code of the row's first packet, so many of them, which gives so many bytes of the row.
pub record WritesFirst (row : List ℕ) (bytes code : ℕ) (out : List ℕ) : Type 0 where
  pub code_is : take code out ≡ packet_code (least_packet row)
  pub bytes_are : bytes ≡ length (packet_row (least_packet row))
  pub some : 1 ≤ bytes
  pub within : bytes ≤ length row
  pub short : code ≤ 2 * bytes
