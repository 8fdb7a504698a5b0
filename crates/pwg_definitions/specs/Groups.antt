-- The lines of a page (PWG 5102.4, section 4.4): packets, lines and groups of equal lines, spelled and read. A unit is
-- a pixel, or a byte with eight pixels of one bit.
use Rattle.std.specs.Prelude.{◌≡◌, ℕ, zero, suc, ◌+◌, ◌-◌, ◌*◌, ◌<◌, ◌≤◌, ◌==◌, nat_lt, if◌then◌else◌, List, [], ◌∷◌, ◌++◌, length, take}
use Rattle.std.specs.Prelude.{drop, slice_index}
use Rattle.std.specs.List.{flat_map}
use Rattle.pwg_definitions.specs.declared.faults.LineFault.{LineFault}
use Rattle.pwg_definitions.specs.declared.faults.LineFault.TheVariants.{RunPastLine, GroupPastPage}
use Rattle.pwg_definitions.specs.Limits.{most_repeats, most_units}
use Rattle.pwg_definitions.specs.Header.{KindRow}

-- ---- spelling

-- A part of a line: one unit n times, white to the end of the line, or n units as they are.
pub data Packet : Type 0 where
  Run : ℕ → List ℕ → Packet
  Clear : Packet
  Literal : ℕ → List ℕ → Packet

-- n copies of a unit
abbrev pub copies : ℕ → List ℕ → List ℕ
copies zero unit = []
copies (suc n) unit = unit ++ copies n unit

-- the bytes that spell a packet; 128, white to the end of the line, is this project's own
abbrev pub packet_spelling : Packet → List ℕ
packet_spelling (Run n unit) = (n - 1) ∷ unit
packet_spelling Clear = 128 ∷ []
packet_spelling (Literal n bytes) = (257 - n) ∷ bytes

-- how many units a packet gives where the line has `left` units left
abbrev pub packet_units : ℕ → Packet → ℕ
packet_units left (Run n unit) = n
packet_units left Clear = left
packet_units left (Literal n bytes) = n

-- the bytes that a packet gives where the line has `left` units left
abbrev pub packet_gives : KindRow → ℕ → Packet → List ℕ
packet_gives row left (Run n unit) = copies n unit
packet_gives row left Clear = copies left row.white
packet_gives row left (Literal n bytes) = bytes

-- a packet fits a line that has `left` units left: a run of 1 to 128 units, white, or 2 to 128 units as they are
abbrev pub IsPacket : KindRow → ℕ → Packet → Type 0
IsPacket row left (Run n unit) = (1 ≤ n) × (n ≤ most_units) × (n ≤ left) × (length unit ≡ row.unit)
IsPacket row left Clear = 1 ≤ left
IsPacket row left (Literal n bytes) = (2 ≤ n) × (n ≤ most_units) × (n ≤ left) × (length bytes ≡ n * row.unit)

-- the packets are a line of `left` units
abbrev pub SpellsLine : KindRow → ℕ → List Packet → Type 0
SpellsLine row left [] = left ≡ 0
SpellsLine row left (p ∷ packets) = IsPacket row left p × SpellsLine row (left - packet_units left p) packets

-- the bytes that the packets of a line give one after another
abbrev pub line_gives : KindRow → ℕ → List Packet → List ℕ
line_gives row left [] = []
line_gives row left (p ∷ packets) = packet_gives row left p ++ line_gives row (left - packet_units left p) packets

-- The bytes spell a group: this line of `units` units, `repeats` times, where the page has `left` lines left.
pub record SpellsGroup (row : KindRow) (units left : ℕ) (bytes : List ℕ) (repeats : ℕ) (line : List ℕ) : Type 0 where
  pub packets : List Packet
  pub spelling : bytes ≡ (repeats - 1) ∷ flat_map packet_spelling packets
  pub some : 1 ≤ repeats
  pub most : repeats ≤ most_repeats
  pub within : repeats ≤ left
  pub full : SpellsLine row units packets
  pub gives : line ≡ line_gives row units packets

-- each number of the list is below 256
abbrev pub IsBytes : List ℕ → Type 0
IsBytes bytes = (k : ℕ) → slice_index bytes k < 256

-- ---- reading

-- What the bytes begin with: a packet, and the bytes after it; a part of a packet; or a packet of too many units.
pub data PacketRead : Type 0 where
  One : Packet → List ℕ → PacketRead
  Short : PacketRead
  Long : PacketRead

-- how many units the packet with this first byte gives
abbrev pub units_of : ℕ → ℕ → ℕ
units_of left n = if nat_lt n 128 then n + 1 else (if n == 128 then left else 257 - n)

-- the packet that is made of the first `count` bytes, and the bytes after them
abbrev pub packet_from : (List ℕ → Packet) → ℕ → List ℕ → PacketRead
packet_from make count bytes =
    if nat_lt (length bytes) count then Short else One (make (take count bytes)) (drop count bytes)

-- the packet with this first byte
abbrev pub packet_of : KindRow → ℕ → List ℕ → PacketRead
packet_of row n bytes =
    if nat_lt n 128 then packet_from (Run (n + 1)) row.unit bytes
    else (if n == 128 then One Clear bytes else packet_from (Literal (257 - n)) ((257 - n) * row.unit) bytes)

-- the next packet, where the line has `left` units left
abbrev pub packet_at : KindRow → ℕ → List ℕ → PacketRead
packet_at row left [] = Short
packet_at row left (n ∷ bytes) = if nat_lt left (units_of left n) then Long else packet_of row n bytes

-- What the bytes begin with: a group, by its repeats, its line and the bytes after it; a part of a group; or a fault
-- at this place of the bytes.
pub data GroupRead : Type 0 where
  Group : ℕ → List ℕ → List ℕ → GroupRead
  Part : GroupRead
  Wrong : ℕ → LineFault → GroupRead

-- A group that is read in part: its repeats, the bytes of its line so far, and how many bytes were read.
pub record GroupFront : Type 0 where
  pub repeats : ℕ
  pub line : List ℕ
  pub place : ℕ

-- the same with one more packet
abbrev pub with_packet : KindRow → ℕ → Packet → GroupFront → GroupFront
with_packet row left p front = record {
  repeats = front.repeats;
  line = front.line ++ packet_gives row left p;
  place = front.place + length (packet_spelling p);
}

-- The group that is read in part, whose line has `left` units left, in at most `most` packets: each has a unit or
-- more.
unfoldable pub line_at : KindRow → ℕ → ℕ → GroupFront → List ℕ → GroupRead
line_at row most zero front bytes = Group front.repeats front.line bytes
line_at row zero (suc left) front bytes = Part
line_at row (suc most) (suc left) front bytes = elim (packet_at row (suc left) bytes) [
  | One p rest ↦
      line_at row most (suc left - packet_units (suc left) p) (with_packet row (suc left) p front) rest
  | Short ↦ Part
  | Long ↦ Wrong front.place RunPastLine
]

-- the next group, where a line has `units` units and the page has `left` lines left
abbrev pub group_at : KindRow → ℕ → ℕ → List ℕ → GroupRead
group_at row units left [] = Part
group_at row units left (c ∷ bytes) =
    if nat_lt left (c + 1) then Wrong 0 GroupPastPage
    else line_at row units units (record { repeats = c + 1; line = []; place = 1 }) bytes
