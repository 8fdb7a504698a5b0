-- The bytes of pages print the pages.
use Rattle.std.proofs.Common.{◌≡◌, ℕ, ◌*◌, inr, List, [], ◌∷◌, ◌++◌, refl, sym, ◌∙◌, ap, None, flat_map, subst}
use Rattle.printer_definitions.specs.Printer.{Printer, row_units}
use Rattle.page_definitions.specs.Dots.{Screening}
use Rattle.escp2_definitions.specs.Commands.{CommandList, commands}
use Rattle.escp2_definitions.specs.Commands.ListEnd.{Whole}
use Rattle.escp2_definitions.specs.Machine.{Dot, Printed, Sheet, execute, execute_from, start, with_sheets}
use Rattle.escp2_definitions.specs.Written.{Coding, IsCoding}
use Rattle.escp2_laws.proofs.Least.{least-codes}
use Rattle.separation_definitions.specs.CanPrint.{ArePages, CanPrint}
use Rattle.separation_definitions.specs.Windows.{wanted_by}
use Rattle.pwg_definitions.specs.Stream.{IsPage, Page}
use Rattle.page_definitions.specs.Dots.{Halftone, dots_wanted, halftone, wanted}
use Rattle.page_definitions.specs.Exact.{Exactly}
use Rattle.page_definitions.specs.PageBytes.{halftone_bytes, page_bytes, page_coding, weave}
use Rattle.page_definitions.specs.Printing.{AreSheets, Prints}
use Rattle.page_definitions.specs.Strokes.{Fires, Spoken, Strokes, bytes_of, page_commands}
use Rattle.page_laws.specs.Sized.{Sized}
use Rattle.page_laws.specs.Stroked.{FirePages, stroked_bytes}
use Rattle.page_laws.proofs.Numbers.{form-sized}
use Rattle.page_laws.proofs.Once.{exactly-once}
use Rattle.page_laws.proofs.Running.{IsLayout, Layout, entries}
use Rattle.page_laws.proofs.Pages.{page-run}
use Rattle.page_laws.proofs.Spelled.{AllSpoken, spoken-append}
use Rattle.page_laws.proofs.Printed.{bytes-append, commands-spoken, layout_of, read, strokes-lie}
use Rattle.page_laws.proofs.Weaving.{weave-fires}

-- the rows of pages are coded
pub page-coded : IsCoding page_coding
page-coded = inr (refl, least-codes)

-- the window of a page has a size that can be printed
pub page-sized : (p : Printer) (k : Screening) (page : Page)
    → CanPrint p → IsPage (wanted_by p) page → Sized p (halftone page p k) page.form.height
page-sized p k page can is = form-sized p (halftone page p k) page.form can is.wanted refl refl

-- ---- the jobs of pages

-- the commands of a page
abbrev page_job : Coding → (Halftone → Strokes) → Printer → Screening → Page → List Spoken
page_job coding strokes p k page =
    let h : Halftone = halftone page p k in page_commands p h.width h.height coding.c (page.form.height * row_units p) (strokes h)

-- the commands of pages are spelled by their bytes
jobs-spoken : (coding : Coding) (strokes : Halftone → Strokes) (p : Printer) (k : Screening) (pages : List Page) → CanPrint p → IsCoding coding
    → FirePages p k strokes → ArePages p pages → AllSpoken coding (flat_map (page_job coding strokes p k) pages)
jobs-spoken coding strokes p k [] can is_coding fire are = tt
jobs-spoken coding strokes p k (page ∷ pages) can is_coding fire are =
    let h : Halftone = halftone page p k in
    spoken-append coding (page_job coding strokes p k page) _
    (commands-spoken p h coding page.form.height (strokes h) can is_coding (page-sized p k page can are.0) (fire page are.0))
    (jobs-spoken coding strokes p k pages can is_coding fire are.1)

-- the bytes of pages are those of their commands
bytes-are : (coding : Coding) (strokes : Halftone → Strokes) (p : Printer) (k : Screening) (pages : List Page)
    → flat_map (λ page. stroked_bytes coding strokes page p k) pages ≡ bytes_of coding.code (flat_map (page_job coding strokes p k) pages)
bytes-are coding strokes p k [] = refl
bytes-are coding strokes p k (page ∷ pages) =
    ap (λ bs. bytes_of coding.code (page_job coding strokes p k page) ++ bs) (bytes-are coding strokes p k pages)
    ∙ sym (bytes-append coding.code (page_job coding strokes p k page) (flat_map (page_job coding strokes p k) pages))

-- ---- the run

-- the jobs of pages give their sheets, one after another
pages-run : (coding : Coding) (strokes : Halftone → Strokes) (p : Printer) (k : Screening) (pages : List Page) (at : ℕ)
    → CanPrint p → IsCoding coding
    → FirePages p k strokes → ArePages p pages
    → (sheets : List Sheet) × AreSheets p k pages sheets
    × (execute_from p start (entries coding.code at (flat_map (page_job coding strokes p k) pages))
    ≡ record { sheets = sheets; refused = None })
unfolding execute_from
pages-run coding strokes p k [] at can is_coding fire are = ([], tt, refl)
pages-run coding strokes p k (page ∷ pages) at can is_coding fire are =
    let h : Halftone = halftone page p k in
    let fires : Fires p h (strokes h) = fire page are.0 in
    let w : Layout = layout_of p h coding (strokes h).above page.form.height in
    let is : IsLayout w = record { can = can; coding = is_coding; size = page-sized p k page can are.0; room = fires.room } in
    let lie = strokes-lie p h coding page.form.height (strokes h) fires in
    let this = page-run w (strokes h).list start
    (flat_map (page_job coding strokes p k) pages) at is refl fires.rising lie (exactly-once _ _ fires.once) in
    let others = pages-run coding strokes p k pages this.1 can is_coding fire are.1 in
    let E : List Dot → Type 0 = λ ds. Exactly ds (dots_wanted p h) in
    let first : Exactly this.0.dots (wanted page p k) = subst E (sym this.2) fires.once in
    (this.0 ∷ others.0, (first, others.1), this.3 ∙ ap (with_sheets (this.0 ∷ [])) others.2)

-- The bytes of pages that are printed by strokes, one after another, print the pages.
pub stroked-print : (coding : Coding) (strokes : Halftone → Strokes) (p : Printer) (k : Screening) (pages : List Page)
    → CanPrint p → IsCoding coding
    → FirePages p k strokes → ArePages p pages → Prints p k pages (flat_map (λ page. stroked_bytes coding strokes page p k) pages)
stroked-print coding strokes p k pages can is_coding fire are =
    let job : List Spoken = flat_map (page_job coding strokes p k) pages in
    let bytes : List ℕ = flat_map (λ page. stroked_bytes coding strokes page p k) pages in
    let list : CommandList = record { entries = entries coding.code 0 job; end = Whole } in
    let reads : commands bytes ≡ list = ap commands (bytes-are coding strokes p k pages)
    ∙ read coding job (jobs-spoken coding strokes p k pages can is_coding fire are) in
    let run = pages-run coding strokes p k pages 0 can is_coding fire are in
    let all : execute p (commands bytes).entries ≡ record { sheets = run.0; refused = None } =
    ap (λ (j : CommandList). execute p j.entries) reads ∙ run.2 in
    let P : List Sheet → Type 0 = λ sheets. AreSheets p k pages sheets in
    record {
      whole = ap (λ (j : CommandList). j.end) reads;
      accepted = ap (λ (r : Printed). r.refused) all;
      sheets = subst P (sym (ap (λ (r : Printed). r.sheets) all)) run.1;
    }

-- The bytes of pages, one after another, print them.
pub pages-print : (p : Printer) (k : Screening) (pages : List Page) → CanPrint p → ArePages p pages
    → Prints p k pages (flat_map (λ page. page_bytes page p k) pages)
unfolding page_bytes halftone_bytes
pages-print p k pages can are = stroked-print page_coding
    (weave p) p k pages can page-coded (λ page is. weave-fires p (halftone page p k) can) are
