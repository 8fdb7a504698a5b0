-- The canonical spelling of a group, which is written (PWG 5102.4, section 4.4): runs where units are equal, and
-- literals between them. White to the end of the line is never written.
use Rattle.std.specs.Prelude.{ℕ, zero, suc, ◌+◌, ◌-◌, ◌*◌, ◌==◌, nat_eq, nat_lt, if◌then◌else◌, List, [], ◌∷◌, length, take, drop}
use Rattle.std.specs.List.{flat_map, starts_with}
use Rattle.pwg_definitions.specs.Limits.{most_units}
use Rattle.pwg_definitions.specs.Groups.{Packet, packet_spelling, packet_units}
use Rattle.pwg_definitions.specs.Groups.Packet.{Run, Literal}

-- how many times the bytes begin with the unit, one after another, up to `most`
unfoldable pub copies_at : ℕ → List ℕ → List ℕ → ℕ
copies_at zero unit bytes = 0
copies_at (suc most) unit bytes =
    if starts_with nat_eq bytes unit then 1 + copies_at most unit (drop (length unit) bytes) else 0

-- how many units come before the first two that are equal, or before the end, up to `most`
unfoldable pub unequal_at : ℕ → ℕ → List ℕ → ℕ
unequal_at zero unit bytes = 0
unequal_at (suc most) unit [] = 0
unequal_at (suc most) unit (b ∷ bytes) =
    if starts_with nat_eq (drop unit (b ∷ bytes)) (take unit (b ∷ bytes)) then 0
    else 1 + unequal_at most unit (drop unit (b ∷ bytes))

-- n units as they are; one alone is a run of one
abbrev pub as_they_are : ℕ → List ℕ → Packet
as_they_are n bytes = if n == 1 then Run 1 bytes else Literal n bytes

-- the first packet of a line: a run of two units or more, else a literal up to the next run
abbrev pub next_packet : ℕ → List ℕ → Packet
next_packet unit line =
    let run = copies_at most_units (take unit line) line in
    let alone = unequal_at most_units unit line in
    if nat_lt 1 run then Run run (take unit line) else as_they_are alone (take (alone * unit) line)

-- the packets of a line, of which there may be `most`
unfoldable pub packets_from : ℕ → ℕ → List ℕ → List Packet
packets_from most unit [] = []
packets_from zero unit (b ∷ line) = []
packets_from (suc most) unit (b ∷ line) =
    let packet = next_packet unit (b ∷ line) in
    packet ∷ packets_from most unit (drop (packet_units 0 packet * unit) (b ∷ line))

-- the bytes of the group of this line and its repeats
abbrev pub canonical : ℕ → ℕ → List ℕ → List ℕ
canonical unit repeats line = (repeats - 1) ∷ flat_map packet_spelling (packets_from (length line) unit line)
