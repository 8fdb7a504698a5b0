-- Jobs of pages, which end with a reset.
use Rattle.std.proofs.Common.{◌≡◌, ℕ, ◌+◌, ◌*◌, List, [], ◌∷◌, ◌++◌, length, refl, sym, ◌∙◌, ap, subst, append_assoc, filter, flat_map}
use Rattle.printer_definitions.specs.Printer.{Printer, row_units}
use Rattle.escp2_definitions.specs.declared.command.Command.TheVariants as c
use Rattle.escp2_definitions.specs.Commands.{CommandList, commands}
use Rattle.escp2_definitions.specs.Commands.ListEnd.{Whole}
use Rattle.escp2_definitions.specs.Machine.{Machine, after, start}
use Rattle.escp2_definitions.specs.Written.{written}
use Rattle.separation_definitions.specs.CanPrint.{ArePages, CanPrint}
use Rattle.pwg_definitions.specs.Stream.{Page}
use Rattle.page_definitions.specs.Dots.{Halftone, Screening, halftone}
use Rattle.page_definitions.specs.PageBytes.{page_coding}
use Rattle.page_definitions.specs.Printing.{Prints, state_after}
use Rattle.page_definitions.specs.Strokes.{Spoken, Strokes, bytes_of, fires, page_commands, prologue, say, strokes_commands}
use Rattle.page_definitions.specs.Ways.{CanGo, page_bytes_by, way_strokes}
use Rattle.page_definitions.specs.declared.way.Way.{Way}
use Rattle.page_laws.proofs.Headline.{page-coded, page-sized}
use Rattle.page_laws.proofs.Printed.{bytes-append, commands-spoken, read}
use Rattle.page_laws.proofs.Running.{entries}
use Rattle.page_laws.proofs.Spelled.{AllSpoken, spoken-append}
use Rattle.page_laws.proofs.WaysKept.{way-bytes, way-fires, ways-print}
use Rattle.finish_definitions.specs.Finished.{finished, page_after, page_from, page_state}
use Rattle.finish_definitions.specs.declared.state.PageState.{PageState}
use Rattle.finish_definitions.specs.declared.state.PageState.TheVariants.{Between}
use Rattle.finish_laws.specs.Sheets.{PrintsPages, left_at}
use Rattle.finish_laws.proofs.Ends.{whole-stays}
use Rattle.finish_laws.proofs.CutJobs.{front-pages}

-- ---- the commands of pages

-- the commands that print a page by a way
abbrev way_job : Way → Printer → Screening → Page → List Spoken
way_job way p k page =
    let h : Halftone = halftone page p k in
    page_commands p h.width h.height page_coding.c (page.form.height * row_units p) (way_strokes way p h)

-- the commands that print pages
abbrev way_jobs : Way → Printer → Screening → List Page → List Spoken
way_jobs way p k pages = flat_map (way_job way p k) pages

-- the bytes of pages by a way
abbrev way_text : Way → Printer → Screening → List Page → List ℕ
way_text way p k pages = flat_map (λ page. page_bytes_by way page p k) pages

-- they are spelled by their bytes
jobs-spoken : (way : Way) (p : Printer) (k : Screening) (pages : List Page) → CanPrint p → CanGo way p → ArePages p pages
    → AllSpoken page_coding (way_jobs way p k pages)
jobs-spoken way p k [] can go are = tt
jobs-spoken way p k (page ∷ pages) can go are =
    let h : Halftone = halftone page p k in
    spoken-append page_coding (way_job way p k page) _
    (commands-spoken p h page_coding page.form.height (way_strokes way p h) can page-coded (page-sized p k page can are.0)
    (way-fires way p h can go))
    (jobs-spoken way p k pages can go are.1)

-- the bytes of pages are those of the commands
text-is : (way : Way) (p : Printer) (k : Screening) (pages : List Page)
    → way_text way p k pages ≡ bytes_of page_coding.code (way_jobs way p k pages)
unfolding page_bytes_by
text-is way p k [] = refl
text-is way p k (page ∷ pages) =
    let h : Halftone = halftone page p k in
    ap (λ bs. bs ++ way_text way p k pages) (way-bytes way p h (page.form.height * row_units p))
    ∙ ap (λ bs. bytes_of page_coding.code (way_job way p k page) ++ bs) (text-is way p k pages)
    ∙ sym (bytes-append page_coding.code (way_job way p k page) (way_jobs way p k pages))

-- They are read as these commands.
text-read : (way : Way) (p : Printer) (k : Screening) (pages : List Page) → CanPrint p → CanGo way p → ArePages p pages
    → commands (way_text way p k pages) ≡ record { entries = entries page_coding.code 0 (way_jobs way p k pages); end = Whole }
text-read way p k pages can go are =
    ap commands (text-is way p k pages) ∙ read page_coding (way_jobs way p k pages) (jobs-spoken way p k pages can go are)

-- ---- what a reset leaves

-- After a reset in a job, page and printer are as at the start of a job that goes on with what is behind the reset.
record Reset (p : Printer) (m : Machine) (state : PageState) (code : List ℕ → List ℕ) (at : ℕ) (job rest : List Spoken) : Type 0 where
  place : ℕ
  page : page_from state (entries code at job) ≡ page_from Between (entries code place rest)
  machine : state_after p m (entries code at job) ≡ state_after p start (entries code place rest)

-- after commands and a reset
reset-behind : (p : Printer) (m : Machine) (state : PageState) (code : List ℕ → List ℕ) (at : ℕ) (before rest : List Spoken)
    → Reset p m state code at (before ++ say c.Init ∷ rest) rest
reset-behind p m state code at [] rest = record { place = at + length (written code c.Init []); page = refl; machine = refl }
reset-behind p m state code at (s ∷ before) rest =
    let next = reset-behind p (after p m s.command s.rows) (page_after state s.command) code (at + length (written code s.command s.rows))
    before rest in
    record { place = next.place; page = next.page; machine = next.machine }

-- after the commands of a page
page-resets : (way : Way) (p : Printer) (k : Screening) (page : Page) (at : ℕ) (rest : List Spoken)
    → Reset p start Between page_coding.code at (way_job way p k page ++ rest) rest
page-resets way p k page at rest =
    let h : Halftone = halftone page p k in
    let strokes : Strokes = way_strokes way p h in
    let first : List Spoken = prologue p strokes.above h.height (page.form.height * row_units p) in
    let passes : List Spoken = strokes_commands p h.width page_coding.c 0 (filter (fires p) strokes.list) in
    let before : List Spoken = first ++ (passes ++ say c.Eject ∷ []) in
    let same : before ++ say c.Init ∷ rest ≡ way_job way p k page ++ rest =
    append_assoc first (passes ++ say c.Eject ∷ []) (say c.Init ∷ rest)
    ∙ ap (λ job. first ++ job) (append_assoc passes (say c.Eject ∷ []) (say c.Init ∷ rest)
    ∙ sym (append_assoc passes (say c.Eject ∷ say c.Init ∷ []) rest))
    ∙ sym (append_assoc first (passes ++ say c.Eject ∷ say c.Init ∷ []) rest) in
    let P : List Spoken → Type 0 = λ job. Reset p start Between page_coding.code at job rest in
    subst P same (reset-behind p start Between page_coding.code at before rest)

-- The commands of pages leave page and printer as at the start of a job.
pages-reset : (way : Way) (p : Printer) (k : Screening) (pages : List Page) (at : ℕ)
    → Reset p start Between page_coding.code at (way_jobs way p k pages) []
pages-reset way p k [] at = record { place = at; page = refl; machine = refl }
pages-reset way p k (page ∷ pages) at =
    let first = page-resets way p k page at (way_jobs way p k pages) in
    let others = pages-reset way p k pages first.place in
    record { place = others.place; page = first.page ∙ others.page; machine = first.machine ∙ others.machine }

-- ---- the bytes of pages

-- They end between pages.
text-between : (way : Way) (p : Printer) (k : Screening) (pages : List Page) → CanPrint p → CanGo way p → ArePages p pages
    → page_state (way_text way p k pages) ≡ Between
text-between way p k pages can go are =
    ap (λ (l : CommandList). page_from Between l.entries) (text-read way p k pages can go are)
    ∙ (pages-reset way p k pages 0).page

-- They leave no dot on the next sheet.
text-blank : (way : Way) (p : Printer) (k : Screening) (pages : List Page) → CanPrint p → CanGo way p → ArePages p pages
    → (left_at p (way_text way p k pages)).dots ≡ []
text-blank way p k pages can go are =
    ap (λ (l : CommandList). (state_after p start l.entries).dots) (text-read way p k pages can go are)
    ∙ ap (λ (m : Machine). m.dots) (pages-reset way p k pages 0).machine

-- The job of pages stays as it is.
pub printed-stays : (way : Way) (p : Printer) (k : Screening) (pages : List Page) → CanPrint p → CanGo way p → ArePages p pages
    → finished (flat_map (λ page. page_bytes_by way page p k) pages) ≡ flat_map (λ page. page_bytes_by way page p k) pages
printed-stays way p k pages can go are =
    whole-stays (way_text way p k pages) (ways-print way p k pages can go are).whole (text-between way p k pages can go are)

-- Its finished front prints the first pages.
pub printed-front : (way : Way) (p : Printer) (k : Screening) (pages : List Page) (front rest : List ℕ)
    → CanPrint p → CanGo way p → ArePages p pages
    → front ++ rest ≡ flat_map (λ page. page_bytes_by way page p k) pages
    → PrintsPages p k pages (front ++ rest) front
printed-front way p k pages front rest can go are is =
    let P : List ℕ → Type 0 = λ bytes. Prints p k pages bytes in
    front-pages p k pages front rest (subst P (sym is) (ways-print way p k pages can go are))
    (ap (λ bytes. (left_at p bytes).dots) is ∙ text-blank way p k pages can go are)
