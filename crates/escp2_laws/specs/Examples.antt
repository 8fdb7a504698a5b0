-- Worked jobs, as bytes.
use Rattle.std.specs.Prelude.{ℕ, List, [], ◌∷◌, ◌++◌, map, Option, Some}
use Rattle.printer_definitions.specs.declared.inks.Ink.TheVariants.{Black}
use Rattle.printer_definitions.specs.Printer.{Printer, tiny1}
use Rattle.escp2_definitions.specs.declared.command.Command.{Command}
use Rattle.escp2_definitions.specs.declared.stops.EmulatorFault.{EmulatorFault}
use Rattle.escp2_definitions.specs.Commands.{Entry, ListEnd, commands}
use Rattle.escp2_definitions.specs.Machine.{Dot, Refused, execute}

-- 360 dots an inch both ways, three nozzles of black two rows apart, and a top margin of four rows
abbrev pub three_nozzles : Printer
three_nozzles = record tiny1 { nozzles = 3; pitch = 2; top = 4 }

-- ---- a job for three nozzles

-- a sheet of six rows, 46 bytes: graphics, units of 5/3600 inch, MicroWeave off, one way, a length of 12 units, margins
-- 0 and 12
abbrev pub listing_prefix : List ℕ
listing_prefix =
    0x1B ∷ 0x40
    ∷ 0x1B ∷ 0x28 ∷ 0x47 ∷ 0x01 ∷ 0x00 ∷ 0x01
    ∷ 0x1B ∷ 0x28 ∷ 0x55 ∷ 0x01 ∷ 0x00 ∷ 0x05
    ∷ 0x1B ∷ 0x28 ∷ 0x69 ∷ 0x01 ∷ 0x00 ∷ 0x00
    ∷ 0x1B ∷ 0x55 ∷ 0x01
    ∷ 0x1B ∷ 0x28 ∷ 0x43 ∷ 0x02 ∷ 0x00 ∷ 0x0C ∷ 0x00
    ∷ 0x1B ∷ 0x28 ∷ 0x63 ∷ 0x04 ∷ 0x00 ∷ 0x00 ∷ 0x00 ∷ 0x0C ∷ 0x00
    ∷ 0x1B ∷ 0x28 ∷ 0x56 ∷ 0x02 ∷ 0x00 ∷ 0x00 ∷ 0x00
    ∷ []

-- three coded rows of eight columns: the last one is all dots
abbrev pub last_row_black : List ℕ
last_row_black = 0x1B ∷ 0x2E ∷ 0x01 ∷ 0x14 ∷ 0x0A ∷ 0x03 ∷ 0x08 ∷ 0x00 ∷ 0x00 ∷ 0x00 ∷ 0x00 ∷ 0x00 ∷ 0x00 ∷ 0xFF ∷ []

-- the same, where the middle one is all dots
abbrev pub middle_row_black : List ℕ
middle_row_black = 0x1B ∷ 0x2E ∷ 0x01 ∷ 0x14 ∷ 0x0A ∷ 0x03 ∷ 0x08 ∷ 0x00 ∷ 0x00 ∷ 0x00 ∷ 0x00 ∷ 0xFF ∷ 0x00 ∷ 0x00 ∷ []

-- black ink from the left margin on
abbrev pub black_from_left : List ℕ
black_from_left = 0x1B ∷ 0x72 ∷ 0x00 ∷ 0x0D ∷ []

-- two passes, and between them a step down of six units; 92 bytes
abbrev pub listing : List ℕ
listing =
    listing_prefix ++ black_from_left ++ last_row_black
    ++ 0x1B ∷ 0x28 ∷ 0x76 ∷ 0x02 ∷ 0x00 ∷ 0x06 ∷ 0x00 ∷ black_from_left ++ middle_row_black
    ++ 0x0C ∷ 0x1B ∷ 0x40 ∷ []

-- the first pass twice
abbrev pub listing_overprinted : List ℕ
listing_overprinted = listing_prefix ++ black_from_left ++ last_row_black ++ 0x0D ∷ last_row_black

-- ---- pieces of jobs for one nozzle

-- graphics mode
abbrev pub graphics : List ℕ
graphics = 0x1B ∷ 0x28 ∷ 0x47 ∷ 0x01 ∷ 0x00 ∷ 0x01 ∷ []

-- a unit of 1/3600 inch
abbrev pub unit_1 : List ℕ
unit_1 = 0x1B ∷ 0x28 ∷ 0x55 ∷ 0x01 ∷ 0x00 ∷ 0x01 ∷ []

-- a unit of 5/3600 inch
abbrev pub unit_5 : List ℕ
unit_5 = 0x1B ∷ 0x28 ∷ 0x55 ∷ 0x01 ∷ 0x00 ∷ 0x05 ∷ []

-- a unit of 10/3600 inch
abbrev pub unit_10 : List ℕ
unit_10 = 0x1B ∷ 0x28 ∷ 0x55 ∷ 0x01 ∷ 0x00 ∷ 0x0A ∷ []

-- a length of 12 units
abbrev pub length_12 : List ℕ
length_12 = 0x1B ∷ 0x28 ∷ 0x43 ∷ 0x02 ∷ 0x00 ∷ 0x0C ∷ 0x00 ∷ []

-- margins 0 and 12
abbrev pub margins_12 : List ℕ
margins_12 = 0x1B ∷ 0x28 ∷ 0x63 ∷ 0x04 ∷ 0x00 ∷ 0x00 ∷ 0x00 ∷ 0x0C ∷ 0x00 ∷ []

-- down to 12 units
abbrev pub down_to_12 : List ℕ
down_to_12 = 0x1B ∷ 0x28 ∷ 0x56 ∷ 0x02 ∷ 0x00 ∷ 0x0C ∷ 0x00 ∷ []

-- one plain row of eight dots
abbrev pub black_row : List ℕ
black_row = 0x1B ∷ 0x2E ∷ 0x00 ∷ 0x0A ∷ 0x0A ∷ 0x01 ∷ 0x08 ∷ 0x00 ∷ 0xFF ∷ []

-- the same row without dots
abbrev pub blank_row : List ℕ
blank_row = 0x1B ∷ 0x2E ∷ 0x00 ∷ 0x0A ∷ 0x0A ∷ 0x01 ∷ 0x08 ∷ 0x00 ∷ 0x00 ∷ []

-- a row of one dot
abbrev pub one_dot : List ℕ
one_dot = 0x1B ∷ 0x2E ∷ 0x00 ∷ 0x0A ∷ 0x0A ∷ 0x01 ∷ 0x01 ∷ 0x00 ∷ 0x80 ∷ []

-- ---- what they say and do

-- a command without rows, by the offset of its first byte
abbrev pub said : ℕ → Command → Entry
said at command = record { at = at; command = command; rows = [] }

-- how the commands of a job end
abbrev pub end_of : List ℕ → ListEnd
end_of bytes = (commands bytes).end

-- the first command of a job that a printer with one nozzle refuses
abbrev pub refusal : List ℕ → Option Refused
refusal bytes = (execute tiny1 (commands bytes).entries).refused

-- the same, on the sheet of six rows
abbrev pub sheet_refusal : List ℕ → Option Refused
sheet_refusal bytes = refusal (listing_prefix ++ bytes)

-- a refusal at a place
abbrev pub refused : ℕ → EmulatorFault → Option Refused
refused at fault = Some (record { at = at; fault = fault })

-- a row of eight black dots from the left margin on
abbrev pub eight_dots : ℕ → List Dot
eight_dots y = map (λ x. record { ink = Black; x = x; y = y }) (0 ∷ 10 ∷ 20 ∷ 30 ∷ 40 ∷ 50 ∷ 60 ∷ 70 ∷ [])
