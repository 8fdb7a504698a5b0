-- The bytes of strokes print them on one sheet.
use Rattle.std.proofs.Common.{◌≡◌, ℕ, ◌*◌, List, [], ◌∷◌, ◌++◌, map, None, refl, sym, ◌∙◌, ap, subst, append-nil, append_assoc, filter}
use Rattle.std.specs.List.{AllByRecursion}
use Rattle.printer_definitions.specs.Printer.{Printer, row_units}
use Rattle.escp2_definitions.specs.declared.command.Command.TheVariants as c
use Rattle.escp2_definitions.specs.Commands.{CommandList, commands}
use Rattle.escp2_definitions.specs.Commands.ListEnd.{Whole}
use Rattle.escp2_definitions.specs.Machine.{Dot, Printed, Sheet, execute_from}
use Rattle.escp2_definitions.specs.Written.{Coding, IsCoding, written}
use Rattle.escp2_laws.specs.Said.{AllSaid, said_bytes}
use Rattle.escp2_laws.proofs.Jobs.{commands-said}
use Rattle.separation_definitions.specs.CanPrint.{CanPrint}
use Rattle.page_definitions.specs.Dots.{Halftone, dots_wanted}
use Rattle.page_definitions.specs.Exact.{Exactly}
use Rattle.page_definitions.specs.Printing.{GivesSheet, state_after}
use Rattle.page_definitions.specs.Strokes.{Fires, Spoken, Strokes, bytes_of, fires, page_commands, say, strokes_bytes}
use Rattle.page_laws.specs.Sized.{Sized}
use Rattle.page_laws.proofs.Once.{exactly-once}
use Rattle.page_laws.proofs.Running.{IsLayout, Layout, entries, said}
use Rattle.page_laws.proofs.Firing.{Lies}
use Rattle.page_laws.proofs.Left.{leaves-none}
use Rattle.page_laws.proofs.Pages.{all-lie, page-run}
use Rattle.page_laws.proofs.Spelled.{AllSayable, AllSpoken, page-sayable, sayable-spoken}

-- ---- the page of a halftone

-- a halftone on a sheet
abbrev pub layout_of : Printer → Halftone → Coding → ℕ → ℕ → Layout
layout_of p h coding above tall = record { printer = p; coding = coding; above = above; halftone = h; tall = tall }

-- its strokes lie on its window
pub strokes-lie : (p : Printer) (h : Halftone) (coding : Coding) (tall : ℕ) (strokes : Strokes) → Fires p h strokes
    → AllByRecursion (Lies (layout_of p h coding strokes.above tall)) (filter (fires p) strokes.list)
strokes-lie p h coding tall strokes fire = all-lie (layout_of p h coding strokes.above tall) strokes.list fire.whole fire.on_window

-- Each command of strokes that print a halftone is in the table.
pub commands-sayable : (p : Printer) (h : Halftone) (coding : Coding) (tall : ℕ) (strokes : Strokes)
    → CanPrint p → IsCoding coding → Sized p h tall → Fires p h strokes
    → AllSayable coding (page_commands p h.width h.height coding.c (tall * row_units p) strokes)
commands-sayable p h coding tall strokes can is_coding size fire =
    page-sayable (layout_of p h coding strokes.above tall) strokes.list
    (record { can = can; coding = is_coding; size = size; room = fire.room })
    (strokes-lie p h coding tall strokes fire)

-- It is spelled by its bytes.
pub commands-spoken : (p : Printer) (h : Halftone) (coding : Coding) (tall : ℕ) (strokes : Strokes)
    → CanPrint p → IsCoding coding → Sized p h tall → Fires p h strokes
    → AllSpoken coding (page_commands p h.width h.height coding.c (tall * row_units p) strokes)
commands-spoken p h coding tall strokes can is_coding size fire =
    sayable-spoken coding (page_commands p h.width h.height coding.c (tall * row_units p) strokes) is_coding
    (commands-sayable p h coding tall strokes can is_coding size fire)

-- ---- the bytes are read as the commands

-- spelled commands, as a job
spoken-said : (coding : Coding) (job : List Spoken) → AllSpoken coding job → AllSaid (map (said coding.code) job)
spoken-said coding [] all = tt
spoken-said coding (s ∷ job) all = (all.0, spoken-said coding job all.1)

-- the bytes of a job are those of its commands
said_bytes-is : (code : List ℕ → List ℕ) (job : List Spoken) → bytes_of code job ≡ said_bytes (map (said code) job)
said_bytes-is code [] = refl
said_bytes-is code (s ∷ job) = ap (λ bs. written code s.command s.rows ++ bs) (said_bytes-is code job)

-- what the bytes of commands say
pub read : (coding : Coding) (job : List Spoken) → AllSpoken coding job
    → commands (bytes_of coding.code job) ≡ record { entries = entries coding.code 0 job; end = Whole }
read coding job all = ap commands (said_bytes-is coding.code job) ∙ commands-said (map (said coding.code) job) (spoken-said coding job all)

-- the bytes of two jobs, one after the other
pub bytes-append : (code : List ℕ → List ℕ) (xs ys : List Spoken) → bytes_of code (xs ++ ys) ≡ bytes_of code xs ++ bytes_of code ys
bytes-append code [] ys = refl
bytes-append code (x ∷ xs) ys =
    ap (λ bs. written code x.command x.rows ++ bs) (bytes-append code xs ys)
    ∙ sym (append_assoc (written code x.command x.rows) (bytes_of code xs) (bytes_of code ys))

-- ---- one sheet

-- The strokes that print a halftone give it on one sheet.
pub strokes-print : (p : Printer) (h : Halftone) (coding : Coding) (strokes : Strokes) (tall : ℕ)
    → CanPrint p → IsCoding coding → Sized p h tall → Fires p h strokes
    → GivesSheet p (strokes_bytes coding p h.width h.height (tall * row_units p) strokes) (dots_wanted p h)
unfolding execute_from
strokes-print p h coding strokes tall can is_coding size fire =
    let w : Layout = layout_of p h coding strokes.above tall in
    let is : IsLayout w = record { can = can; coding = is_coding; size = size; room = fire.room } in
    let lie : AllByRecursion (Lies w) (filter (fires p) strokes.list) = strokes-lie p h coding tall strokes fire in
    let job : List Spoken = page_commands p h.width h.height coding.c (tall * row_units p) strokes in
    let list : CommandList = record { entries = entries coding.code 0 job; end = Whole } in
    let bytes : List ℕ = strokes_bytes coding p h.width h.height (tall * row_units p) strokes in
    let reads : commands bytes ≡ list = read coding job (commands-spoken p h coding tall strokes can is_coding size fire) in
    record {
      whole = ap (λ (j : CommandList). j.end) reads;
      gives = λ m blank.
          let run = page-run w strokes.list m [] 0 is blank fire.rising lie (exactly-once _ _ fire.once) in
          let sheet : Sheet = run.0 in
          let one : Printed = record { sheets = sheet ∷ []; refused = None } in
          let E : List Dot → Type 0 = λ ds. Exactly ds (dots_wanted p h) in
          record {
            sheet = sheet;
            is = ap (λ (j : CommandList). execute_from p m j.entries) reads
                ∙ ap (λ j. execute_from p m (entries coding.code 0 j)) (sym (append-nil job)) ∙ run.3;
            exactly = subst E (sym run.2) fire.once;
          };
      leaves = λ m blank.
          let run = page-run w strokes.list m (say c.Init ∷ []) 0 is blank fire.rising lie (exactly-once _ _ fire.once) in
          ap (λ (j : CommandList). (state_after p m j.entries).dots) reads
          ∙ leaves-none p m coding.code job (ap (λ (r : Printed). r.refused) run.3);
    }
