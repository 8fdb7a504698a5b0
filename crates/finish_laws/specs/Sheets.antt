-- The sheets of a job that was cut and finished.
use Rattle.std.specs.Prelude.{◌≡◌, ◌≤◌, ℕ, List, [], ◌∷◌, ◌++◌, length, take, drop, None}
use Rattle.printer_definitions.specs.Printer.{Printer}
use Rattle.escp2_definitions.specs.declared.command.Command.TheVariants as c
use Rattle.escp2_definitions.specs.Commands.{commands}
use Rattle.escp2_definitions.specs.Machine.{Dot, Machine, Printed, Sheet, execute, given, start}
use Rattle.page_definitions.specs.Dots.{Screening}
use Rattle.page_definitions.specs.Printing.{AreSheets, state_after}
use Rattle.pwg_definitions.specs.Stream.{Page}
use Rattle.finish_definitions.specs.Finished.{finished, page_state}
use Rattle.finish_definitions.specs.declared.state.PageState.{PageState}
use Rattle.finish_definitions.specs.declared.state.PageState.TheVariants.{Between, Begun, Open, Ejected}

-- what the whole commands of bytes put on the sheets of a printer
abbrev pub printed : Printer → List ℕ → Printed
printed p bytes = execute p (commands bytes).entries

-- the state in which the whole commands of bytes leave the printer
abbrev pub left_at : Printer → List ℕ → Machine
left_at p bytes = state_after p start (commands bytes).entries

-- The sheet that a form feed ejects from a state of the printer, if the page is open.
abbrev pub sheets_open : PageState → Printer → Machine → List Sheet
sheets_open Open p m = given p m c.Eject
sheets_open Between p m = []
sheets_open Begun p m = []
sheets_open Ejected p m = []

-- the sheet of a page that is open behind the whole commands of bytes
abbrev pub open_sheets : Printer → List ℕ → List Sheet
open_sheets p bytes = sheets_open (page_state bytes) p (left_at p bytes)

-- these dots are the first of those
pub record IsFront (front all : List Dot) : Type 0 where
  pub more : List Dot
  pub is : all ≡ front ++ more

-- the dots of the first sheet, if there is one
abbrev pub next_dots : List Sheet → List Dot
next_dots [] = []
next_dots (sheet ∷ sheets) = sheet.dots

-- What a printer makes of the front of a job when it is finished: no command is refused, the first sheets are those of
-- the job, and a page that was cut behind its margins gives one more, with the first dots of the job's next sheet. If
-- no page is open, no dot is left on the sheet.
pub record PrintsFront (p : Printer) (job front : List ℕ) : Type 0 where
  pub count : ℕ
  pub within : count ≤ length (printed p job).sheets
  pub accepted : (printed p (finished front)).refused ≡ None
  pub sheets : (printed p (finished front)).sheets ≡ take count (printed p job).sheets ++ open_sheets p front
  pub begun : IsFront (left_at p front).dots (next_dots (drop count (printed p job).sheets))
  pub none_left : open_sheets p front ≡ [] → (left_at p front).dots ≡ []

-- The same of a job that prints pages: the first sheets have exactly the dots of the first pages.
pub record PrintsPages (p : Printer) (s : Screening) (pages : List Page) (job front : List ℕ) : Type 0 where
  pub prints : PrintsFront p job front
  pub whole : AreSheets p s (take prints.count pages) (take prints.count (printed p job).sheets)
