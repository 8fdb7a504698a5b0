-- The limits of a stream of pages. Its pages are bounded by this project; the other numbers are those of PWG 5102.4.
use Rattle.std.specs.Prelude.{ℕ}

-- the most pages of a stream
abbrev pub most_pages : ℕ
most_pages = 9999

-- the length of a page header in bytes (section 4.3)
abbrev pub header_length : ℕ
header_length = 1796

-- the most repeats of a group's line (section 4.4)
abbrev pub most_repeats : ℕ
most_repeats = 256

-- the most units of a packet (section 4.4)
abbrev pub most_units : ℕ
most_units = 128
