-- What a stream may be to the printing of it: valid, faulty, or with a page that goes past a cap.
use Rattle.std.specs.Prelude.{◌≡◌, ◌⊎◌, List, ℕ, ◌∷◌, ◌++◌, All, Some}
use Rattle.page_definitions.specs.Dots.{Screening}
use Rattle.ink_meter.specs.Accounts.{HasRoom}
use Rattle.ink_meter.specs.Counts.{Admitted, counted, page_dots}
use Rattle.printer_definitions.specs.Printer.{Printer}
use Rattle.pwg_definitions.specs.declared.faults.InputCause.{InputCause}
use Rattle.pwg_definitions.specs.Stream.{Page, StreamEnd, stream}
use Rattle.pwg_definitions.specs.Stream.StreamEnd.{Done, Fault}
use Rattle.separation_definitions.specs.Windows.{wanted_by}
use Rattle.driver_core.specs.Outside.{IsCalm, Meters, Outside}

-- The input is a stream of these pages with a clean end, and the meters have room for all of them.
pub record IsValid (p : Printer) (k : Screening) (input : Outside) (meters : Meters) : Type 0 where
  pub bytes : List ℕ
  pub pages : List Page
  pub told : input.before ≡ Some bytes
  pub is : stream (wanted_by p) bytes ≡ record { pages = pages; end = Done }
  pub room : Admitted p k pages meters.before

-- The input is a stream of these pages that ends with a fault, and the meters have room for all of them.
pub record IsFaulty (p : Printer) (k : Screening) (input : Outside) (meters : Meters) : Type 0 where
  pub bytes : List ℕ
  pub pages : List Page
  pub page : ℕ
  pub line : ℕ
  pub cause : InputCause
  pub told : input.before ≡ Some bytes
  pub is : stream (wanted_by p) bytes ≡ record { pages = pages; end = Fault page line cause }
  pub room : Admitted p k pages meters.before

-- A meter that has counted the pages before it has no room for this page of the input.
pub record IsCapped (p : Printer) (k : Screening) (input : Outside) (meters : Meters) : Type 0 where
  pub bytes : List ℕ
  pub pages : List Page
  pub page : Page
  pub later : List Page
  pub end : StreamEnd
  pub told : input.before ≡ Some bytes
  pub is : stream (wanted_by p) bytes ≡ record { pages = pages ++ page ∷ later; end = end }
  pub full : All (HasRoom (page_dots page p k)) (counted p k pages meters.before) → ⊥

-- If nothing outside fails, printing such a stream ends with this status, or with 7 where memory runs out.
abbrev pub AnswersBy : (Printer → Screening → Outside → Meters → Type 0) → ℕ → Printer → Screening → Outside → Outside → Meters → ℕ → Type 0
AnswersBy IsSuch s p k input out meters status =
    IsSuch p k input meters → IsCalm input → IsCalm out → (status ≡ s) ⊎ (status ≡ 7)
