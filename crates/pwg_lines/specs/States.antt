-- Where in a group a reader stands, and what it reads the bytes that follow as.
use Rattle.std.specs.Prelude.{◌≡◌, ℕ, zero, suc, ◌+◌, ◌-◌, ◌*◌, ◌/◌, ◌<◌, ◌≤◌, nat_lt, if◌then◌else◌, List, [], ◌++◌, length, take, drop}
use Rattle.pwg_definitions.specs.declared.pages.Kind.{Kind}
use Rattle.pwg_definitions.specs.Header.{KindRow, row_of}
use Rattle.pwg_definitions.specs.Groups.{GroupFront, GroupRead, copies, group_at, line_at}
use Rattle.pwg_definitions.specs.Groups.GroupRead.{Group, Part, Wrong}
use Rattle.pwg_lines.specs.declared.states.State.{State}
use Rattle.pwg_lines.specs.declared.states.State.TheVariants.{Start, Packet, Run, Literal, Full, Failed}

-- how many bytes of the line the current packet still gives
abbrev pub pending : KindRow → State → ℕ
pending row (Run units read) = units * row.unit
pending row (Literal bytes) = bytes
pending row other = 0

-- how many units the current run gives, or how many bytes the current literal
abbrev pub gives : State → ℕ
gives (Run units read) = units
gives (Literal bytes) = bytes
gives other = 0

-- the least of these
abbrev pub least_gives : State → ℕ
least_gives (Run units read) = 1
least_gives (Literal bytes) = 1
least_gives other = 0

-- how many bytes of the unit of a run are read; they are put after the filled bytes of the line
abbrev pub read_in : State → ℕ
read_in (Run units read) = read
read_in other = 0

-- the least number of units of the line after the current packet
abbrev pub least_left : State → ℕ
least_left Packet = 1
least_left other = 0

-- the least number of repeats of the group, 1 where its count is read
abbrev pub least_repeats : State → ℕ
least_repeats Start = 0
least_repeats (Failed fault) = 0
least_repeats other = 1

-- how many units a block of 64 bytes holds
abbrev pub block_units : Kind → ℕ
block_units kind = 64 / (row_of kind).unit

-- more bytes are to be read
abbrev pub IsOpen : State → Type 0
IsOpen Full = ⊥
IsOpen (Failed fault) = ⊥
IsOpen other = Unit {0}

-- the state after a packet: before the next one, or after the group where no units are left
abbrev pub behind_packet : ℕ → State
behind_packet zero = Full
behind_packet (suc left) = Packet

-- the group so far, with `more` of its line, which `count` bytes gave
abbrev pub longer : GroupFront → List ℕ → ℕ → GroupFront
longer front more count = record {
  repeats = front.repeats;
  line = front.line ++ more;
  place = front.place + count;
}

-- What the bytes that follow are read as, where the current packet waits for `count` bytes, of which it makes more of
-- the line, and the line has `left` units after it.
abbrev pub read_behind : KindRow → ℕ → ℕ → GroupFront → (List ℕ → List ℕ) → ℕ → List ℕ → GroupRead
read_behind row most left front makes count rest =
    if nat_lt (length rest) count then Part
    else line_at row most left (longer front (makes (take count rest)) count) (drop count rest)

-- What the bytes that follow are read as, where the line has `left` units after the current packet, and `part` is what
-- is read of the unit of a run.
abbrev pub read_on : State → KindRow → ℕ → ℕ → ℕ → ℕ → GroupFront → List ℕ → List ℕ → GroupRead
read_on Start row units lines most left front part rest = group_at row units lines rest
read_on Packet row units lines most left front part rest = line_at row most left front rest
read_on (Run n read) row units lines most left front part rest =
    read_behind row most left front (λ bytes. copies n (part ++ bytes)) (row.unit - read) rest
read_on (Literal n) row units lines most left front part rest = read_behind row most left front (λ bytes. bytes) n rest
read_on Full row units lines most left front part rest = Group front.repeats front.line rest
read_on (Failed fault) row units lines most left front part rest = Wrong (front.place - 1) fault

-- what holds in each state: before a group no bytes are read, and in a packet some of the line is left
abbrev pub IsAt : State → KindRow → ℕ → List ℕ → Type 0
IsAt Start row left sofar = sofar ≡ []
IsAt Packet row left sofar = 1 ≤ left
IsAt (Run n read) row left sofar = read < row.unit
IsAt (Literal n) row left sofar = 1 ≤ n
IsAt Full row left sofar = left ≡ 0
IsAt (Failed fault) row left sofar = 1 ≤ length sofar

-- A reader in this state, with this much of the line and of the unit of a run, reads what follows as the group is read
-- that the bytes `sofar` begin.
pub record Stands (row : KindRow) (units lines : ℕ) (state : State) (repeats : ℕ) (line part : List ℕ) (left : ℕ)
    (sofar : List ℕ) : Type 0 where
  pub at : IsAt state row left sofar
  pub most : ℕ
  pub enough : left ≤ most
  pub is : (rest : List ℕ) → group_at row units lines (sofar ++ rest)
      ≡ read_on state row units lines most left (record { repeats = repeats; line = line; place = length sofar }) part rest

-- Before a packet, a reader reads these bytes, which make its line longer and leave fewer units of it, and stands
-- before a packet again.
abbrev pub Reads : ℕ → ℕ → ℕ → List ℕ → List ℕ → List ℕ → Type 0
Reads unit left left' line line' bytes = (row : KindRow) (units lines repeats : ℕ) (sofar : List ℕ) → row.unit ≡ unit
    → Stands row units lines Packet repeats line [] left sofar
    → Stands row units lines Packet repeats line' [] left' (sofar ++ bytes)
