-- What is counted of a job while its commands pass (this project's own).
use Rattle.std.specs.Prelude.{ℕ, ◌+◌, ◌*◌, min, List, [], ◌∷◌}
use Rattle.printer_definitions.specs.declared.inks.Ink.{Ink}
use Rattle.printer_definitions.specs.declared.inks.Ink.TheVariants.{Black, Cyan, Magenta, Yellow}
use Rattle.escp2_definitions.specs.declared.command.Command.{Command}
use Rattle.escp2_definitions.specs.declared.command.Command.TheVariants as c
use Rattle.escp2_definitions.specs.Commands.{Entry}
use Rattle.finish_definitions.specs.Finished.{page_after}
use Rattle.finish_definitions.specs.declared.state.PageState.TheVariants.{Between}
use Rattle.job_lister.specs.Listing.{dot_count}
use Rattle.printer_definitions.specs.declared.inks.InkCounts.{InkCounts}
use Rattle.page_tally.specs.declared.tally.Tally.{Tally}

-- a count, which stops at the greatest number of 64 bits
abbrev pub count_up_to : ℕ → ℕ
count_up_to n = min n 18446744073709551615

-- a number of pages or a length, which stops at the greatest number of 32 bits
abbrev pub number_up_to : ℕ → ℕ
number_up_to n = min n 4294967295

-- no dots
abbrev pub no_counts : InkCounts
no_counts = record { k = 0; c = 0; m = 0; y = 0 }

-- with so many more dots of an ink
abbrev pub counts_after : InkCounts → Ink → ℕ → InkCounts
counts_after counts Black more = record counts { k = count_up_to (counts.k + more) }
counts_after counts Cyan more = record counts { c = count_up_to (counts.c + more) }
counts_after counts Magenta more = record counts { m = count_up_to (counts.m + more) }
counts_after counts Yellow more = record counts { y = count_up_to (counts.y + more) }

-- At the start of a job: black is the colour, and no unit, no length and no margin are set.
abbrev pub no_tally : Tally
no_tally = record { state = Between; sheets = 0; counts = no_counts; colour = Black; unit = 0; length = 0; top = 0; down = 0 }

-- What a command changes, its state left aside. A reset keeps only the number of sheets.
abbrev pub counted_after : Tally → Command → List ℕ → Tally
counted_after t c.Init rows = record no_tally { sheets = t.sheets }
counted_after t c.Graphics rows = t
counted_after t (c.Unit m) rows = record t { unit = m }
counted_after t (c.MicroWeave n) rows = t
counted_after t (c.OneWay n) rows = t
counted_after t (c.Length n) rows = record t { length = n * t.unit; top = 0; down = 0 }
counted_after t (c.Margins top bottom) rows = record t { top = top * t.unit; down = 0 }
counted_after t (c.DownTo n) rows = record t { down = n * t.unit }
counted_after t (c.DownBy n) rows = record t { down = number_up_to (t.down + n * t.unit) }
counted_after t (c.Across n) rows = t
counted_after t c.Return rows = t
counted_after t c.Eject rows = record t { sheets = number_up_to (t.sheets + 1); counts = no_counts; down = 0 }
counted_after t (c.Colour ink) rows = record t { colour = ink }
counted_after t (c.Raster header) rows = record t { counts = counts_after t.counts t.colour (dot_count header rows) }

-- after a command
abbrev pub tally_after : Tally → Command → List ℕ → Tally
tally_after t command rows = record (counted_after t command rows) { state = page_after t.state command }

-- after commands
abbrev pub tally_from : Tally → List Entry → Tally
tally_from t [] = t
tally_from t (entry ∷ entries) = tally_from (tally_after t entry.command entry.rows) entries
