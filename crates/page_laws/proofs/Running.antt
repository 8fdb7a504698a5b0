-- What the machine makes of single commands.
use Rattle.std.proofs.Common.{◌≡◌, ℕ, ◌+◌, ◌-◌, ◌*◌, ◌≤◌, true, List, [], ◌∷◌, ◌++◌, length, map, Option}
use Rattle.std.proofs.Common.{None, Some, refl, sym, ◌∙◌, ap, append-nil}
use Rattle.printer_definitions.specs.declared.inks.Ink.{Ink}
use Rattle.printer_definitions.specs.Printer.{Printer, row_units}
use Rattle.escp2_definitions.specs.declared.command.Command.{Command}
use Rattle.escp2_definitions.specs.declared.stops.EmulatorFault.{EmulatorFault}
use Rattle.escp2_definitions.specs.Commands.{Entry}
use Rattle.escp2_definitions.specs.Machine.{Dot, Machine, after, execute_from, first_refusal, given, refusals, with_sheets}
use Rattle.escp2_definitions.specs.Written.{Coding, IsCoding, written}
use Rattle.escp2_laws.specs.Said.{Said, entries_of}
use Rattle.page_definitions.specs.Strokes.{Spoken, prologue}
use Rattle.page_definitions.specs.Dots.{Halftone}
use Rattle.page_laws.specs.Sized.{Sized}
use Rattle.separation_definitions.specs.CanPrint.{CanPrint}

-- ---- a page

-- A halftone on a sheet of `tall` rows, how far above its window the head begins, and how the rows of its rasters are
-- coded.
pub record Layout : Type 0 where
  pub printer : Printer
  pub coding : Coding
  pub above : ℕ
  pub halftone : Halftone
  pub tall : ℕ

-- the sheet's length in units
abbrev pub len_of : Layout → ℕ
len_of w = w.tall * row_units w.printer

-- The page can be printed.
pub record IsLayout (w : Layout) : Type 0 where
  pub can : CanPrint w.printer
  pub coding : IsCoding w.coding
  pub size : Sized w.printer w.halftone w.tall
  pub room : w.above ≤ w.printer.top

-- the margins in units, the top one where the head begins
abbrev pub first_of : Layout → ℕ
first_of w = (w.printer.top - w.above) * row_units w.printer

abbrev pub last_of : Layout → ℕ
last_of w = (w.printer.top + w.halftone.height) * row_units w.printer

-- the prologue of the page
abbrev pub begins : Layout → List Spoken
begins w = prologue w.printer w.above w.halftone.height (len_of w)

-- ---- one command

-- a command with the bytes that are written for it
abbrev pub said : (List ℕ → List ℕ) → Spoken → Said
said code s = record { command = s.command; rows = s.rows; bytes = written code s.command s.rows }

-- the entries of a job whose first byte has this offset
abbrev pub entries : (List ℕ → List ℕ) → ℕ → List Spoken → List Entry
entries code at job = entries_of at (map (said code) job)

-- The machine goes from one state to another, which has the rest of a job, and gives no sheet on the way.
abbrev pub Comes : Layout → Machine → List Spoken → Machine → List Spoken → Type 0
Comes w s job s' job' = (at : ℕ) → (at' : ℕ) × (execute_from w.printer s (entries w.coding.code at job)
    ≡ execute_from w.printer s' (entries w.coding.code at' job'))

-- the machine stays in its state
pub comes-here : (w : Layout) (s : Machine) (job : List Spoken) → Comes w s job s job
comes-here w s job at = (at, refl)

-- it comes there by another state
pub comes-then : (w : Layout) (s1 s2 s3 : Machine) (job1 job2 job3 : List Spoken)
    → Comes w s1 job1 s2 job2 → Comes w s2 job2 s3 job3 → Comes w s1 job1 s3 job3
comes-then w s1 s2 s3 job1 job2 job3 f g at = let a = f at in let b = g a.0 in (b.0, a.1 ∙ b.1)

-- the same states and jobs by other names
pub comes-as : (w : Layout) (s1 s2 t2 : Machine) (job1 job job2 : List Spoken)
    → job1 ≡ job → s2 ≡ t2 → Comes w s1 job s2 job2 → Comes w s1 job1 t2 job2
comes-as w s1 s2 t2 job1 job job2 e f comes at =
    let a = comes at in (
      a.0,
      ap (λ j. execute_from w.printer s1 (entries w.coding.code at j)) e
          ∙ a.1 ∙ ap (λ s. execute_from w.printer s (entries w.coding.code a.0 job2)) f,
    )

-- a command that is accepted
pub one-runs : (w : Layout) (s : Machine) (command : Command) (rows : List ℕ) (job : List Spoken) (at : ℕ)
    → first_refusal (refusals w.printer s command rows) ≡ None
    → (at' : ℕ) × (execute_from w.printer s (entries w.coding.code at (record { command = command; rows = rows } ∷ job))
    ≡ with_sheets (given w.printer s command) (execute_from w.printer (after w.printer s command rows) (entries w.coding.code at' job)))
unfolding execute_from
one-runs w s command rows job at accepted =
    let next : ℕ = at + length (written w.coding.code command rows) in
    let rest : List Entry = entries w.coding.code next job in (
      next,
      ap (λ (found : Option EmulatorFault). elim found [
        | Some fault ↦ record { sheets = []; refused = Some (record { at = at; fault = fault }) }
        | None ↦ with_sheets (given w.printer s command) (execute_from w.printer (after w.printer s command rows) rest)
      ]) accepted,
    )

-- a command that is accepted and gives no sheet
pub one : (w : Layout) (s : Machine) (command : Command) (rows : List ℕ) (job : List Spoken)
    → first_refusal (refusals w.printer s command rows) ≡ None → given w.printer s command ≡ []
    → Comes w s (record { command = command; rows = rows } ∷ job) (after w.printer s command rows) job
one w s command rows job accepted no_sheet at =
    let run = one-runs w s command rows job at accepted in (
      run.0,
      run.1 ∙ ap (λ sheets. with_sheets sheets
          (execute_from w.printer (after w.printer s command rows) (entries w.coding.code run.0 job))) no_sheet,
    )

-- ---- the states of a page

-- After the prologue, this many rows below the head's first position.
abbrev pub paused : Layout → ℕ → ℕ → ℕ → Ink → List Dot → Machine
paused w row across columns ink dots = record {
  graphics = true;
  unit = Some 5;
  page = Some (len_of w * 5);
  margins = Some (record { top = first_of w * 5; bottom = last_of w * 5 });
  colour = ink;
  down = row * row_units w.printer * 5;
  across = across;
  columns = columns;
  dots = dots;
}

-- From a row with these dots the machine goes to another with more, whatever its ink, column and columns.
abbrev pub Goes : Layout → ℕ → List Dot → List Spoken → ℕ → List Dot → List Spoken → Type 0
Goes w row dots job row' dots' job' =
    (across columns : ℕ) (ink : Ink) → (across' columns' : ℕ) × (ink' : Ink)
    × Comes w (paused w row across columns ink dots) job (paused w row' across' columns' ink' dots') job'

-- it goes there by another row
pub goes-then : (w : Layout) (r1 r2 r3 : ℕ) (dots1 dots2 dots3 : List Dot) (job1 job2 job3 : List Spoken)
    → Goes w r1 dots1 job1 r2 dots2 job2 → Goes w r2 dots2 job2 r3 dots3 job3 → Goes w r1 dots1 job1 r3 dots3 job3
goes-then w r1 r2 r3 dots1 dots2 dots3 job1 job2 job3 f g across columns ink =
    let a = f across columns ink in
    let b = g a.0 a.1 a.2 in (
      b.0,
      b.1,
      b.2,
      comes-then w (paused w r1 across columns ink dots1)
          (paused w r2 a.0 a.1 a.2 dots2) (paused w r3 b.0 b.1 b.2 dots3) job1 job2 job3 a.3 b.3,
    )

-- it stays on its row
pub goes-here : (w : Layout) (row : ℕ) (dots more : List Dot) (job : List Spoken) → more ≡ [] → Goes w row dots job row (dots ++ more) job
goes-here w row dots more job none across columns ink = (
  across,
  columns,
  ink,
  comes-as w (paused w row across columns ink dots)
      (paused w row across columns ink dots) (paused w row across columns ink (dots ++ more)) job job job refl
      (ap (λ ds. paused w row across columns ink ds) (sym (append-nil dots) ∙ ap (λ m. dots ++ m) (sym none)))
      (comes-here w (paused w row across columns ink dots) job),
)

-- a job by another name
pub goes-as : (w : Layout) (row row' : ℕ) (dots dots' ends : List Dot) (job1 job job2 : List Spoken) → job1 ≡ job → dots' ≡ ends
    → Goes w row dots job row' dots' job2 → Goes w row dots job1 row' ends job2
goes-as w row row' dots dots' ends job1 job job2 e f goes across columns ink =
    let a = goes across columns ink in (
      a.0,
      a.1,
      a.2,
      comes-as w (paused w row across columns ink dots) (paused w row' a.0 a.1 a.2 dots') (paused w row' a.0 a.1 a.2 ends) job1 job job2 e
          (ap (λ ds. paused w row' a.0 a.1 a.2 ds) f) a.3,
    )
