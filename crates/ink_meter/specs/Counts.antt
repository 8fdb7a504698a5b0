-- The dots of pages, and meters that count them.
use Rattle.std.specs.Prelude.{ℕ, List, [], ◌∷◌, map, All, count_by}
use Rattle.page_definitions.specs.Dots.{Screening}
use Rattle.escp2_definitions.specs.Machine.{Dot}
use Rattle.ink_meter.specs.Accounts.{Account, HasRoom, added}
use Rattle.page_definitions.specs.Dots.{Halftone, dots_wanted, halftone}
use Rattle.printer_definitions.specs.declared.inks.Ink.{Ink}
use Rattle.printer_definitions.specs.declared.inks.Ink.TheVariants.{Black, Cyan, Magenta, Yellow}
use Rattle.printer_definitions.specs.Inks.{same_ink}
use Rattle.printer_definitions.specs.Printer.{Printer}
use Rattle.pwg_definitions.specs.Stream.{Page}
use Rattle.printer_definitions.specs.declared.inks.InkCounts.{InkCounts}

-- the dots of an ink
abbrev pub dots_of : List Dot → Ink → ℕ
dots_of dots ink = count_by (λ (d : Dot). same_ink ink d.ink) dots

-- The dots of each ink in a list.
abbrev pub ink_dots : List Dot → InkCounts
ink_dots dots = record { k = dots_of dots Black; c = dots_of dots Cyan; m = dots_of dots Magenta; y = dots_of dots Yellow }

-- The dots of each ink in a halftone.
abbrev pub halftone_dots : Printer → Halftone → InkCounts
halftone_dots p h = ink_dots (dots_wanted p h)

-- The dots of each ink that a page asks for.
unfoldable pub page_dots : Page → Printer → Screening → InkCounts
page_dots page p s = halftone_dots p (halftone page p s)

-- The meters after counting these pages, one after another.
abbrev pub counted : Printer → Screening → List Page → List Account → List Account
counted p s [] accounts = accounts
counted p s (page ∷ pages) accounts = counted p s pages (map (added (page_dots page p s)) accounts)

-- Each meter has room for each page, after counting the pages before it.
abbrev pub Admitted : Printer → Screening → List Page → List Account → Type 0
Admitted p s [] accounts = Unit {0}
Admitted p s (page ∷ pages) accounts =
    All (HasRoom (page_dots page p s)) accounts × Admitted p s pages (map (added (page_dots page p s)) accounts)
