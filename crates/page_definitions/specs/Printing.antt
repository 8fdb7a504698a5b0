-- What it means that bytes print pages.
use Rattle.std.specs.Prelude.{◌≡◌, ℕ, List, [], ◌∷◌, None}
use Rattle.printer_definitions.specs.Printer.{Printer}
use Rattle.escp2_definitions.specs.Commands.{Entry, commands}
use Rattle.escp2_definitions.specs.Commands.ListEnd.{Whole}
use Rattle.escp2_definitions.specs.Machine.{Dot, Machine, Printed, Sheet, after, execute, execute_from}
use Rattle.page_definitions.specs.Dots.{Screening, wanted}
use Rattle.page_definitions.specs.Exact.{Exactly}
use Rattle.pwg_definitions.specs.Stream.{Page}

-- There are as many sheets as pages, and each has exactly the dots that its page asks for.
abbrev pub AreSheets : Printer → Screening → List Page → List Sheet → Type 0
AreSheets p s [] [] = Unit {0}
AreSheets p s [] (sheet ∷ sheets) = ⊥
AreSheets p s (page ∷ pages) [] = ⊥
AreSheets p s (page ∷ pages) (sheet ∷ sheets) = Exactly sheet.dots (wanted page p s) × AreSheets p s pages sheets

-- The bytes are whole commands, the printer refuses none, and its sheets are those of the pages.
pub record Prints (p : Printer) (s : Screening) (pages : List Page) (bytes : List ℕ) : Type 0 where
  pub whole : (commands bytes).end ≡ Whole
  pub accepted : (execute p (commands bytes).entries).refused ≡ None
  pub sheets : AreSheets p s pages (execute p (commands bytes).entries).sheets

-- One sheet with exactly these dots, and no refusal.
pub record IsOneSheet (run : Printed) (dots : List Dot) : Type 0 where
  pub sheet : Sheet
  pub is : run ≡ record { sheets = sheet ∷ []; refused = None }
  pub exactly : Exactly sheet.dots dots

-- the state after commands none of which is refused
abbrev pub state_after : Printer → Machine → List Entry → Machine
state_after p m [] = m
state_after p m (entry ∷ entries) = state_after p (after p m entry.command entry.rows) entries

-- The bytes are whole commands, and from any state of the printer without a dot on the sheet they give one sheet with
-- exactly these dots, and leave no dot on the next.
pub record GivesSheet (p : Printer) (bytes : List ℕ) (dots : List Dot) : Type 0 where
  pub whole : (commands bytes).end ≡ Whole
  pub gives : (m : Machine) → m.dots ≡ [] → IsOneSheet (execute_from p m (commands bytes).entries) dots
  pub leaves : (m : Machine) → m.dots ≡ [] → (state_after p m (commands bytes).entries).dots ≡ []
