-- Pages that meters count, one more or none.
use Rattle.std.proofs.Common.{◌≡◌, List, [], ◌∷◌, ◌++◌, All, map, refl, sym, ◌∙◌, ap, subst}
use Rattle.page_definitions.specs.Dots.{Screening}
use Rattle.dot_planes.specs.Tables.{DotTable, dot}
use Rattle.ink_meter.specs.Accounts.{Account, HasRoom, added}
use Rattle.ink_meter.specs.Counts.{halftone_dots, page_dots}
use Rattle.ink_meter.proofs.Pages.{admitted-append, counted-append, page_dots-is}
use Rattle.page_definitions.specs.Dots.{Halftone, HasDots, halftone}
use Rattle.printer_definitions.specs.Printer.{Printer}
use Rattle.pwg_definitions.specs.Stream.{Page}
use Rattle.printer_definitions.specs.declared.inks.InkCounts.{InkCounts}
use Rattle.driver_core.specs.Printing.Outcome.{CountsPages}

pub none_counted : (p : Printer) (k : Screening) (accounts : List Account) → CountsPages p k (record { before = accounts; now = accounts }) []
none_counted p k accounts = record { admitted = tt; counts = refl }

-- the dots that are counted of the planes of a page are the page's
pub dots_counted : {p q : Printer} (k : Screening) (t : DotTable) (page : Page) (n : InkCounts) → q ≡ p
    → HasDots p (halftone page p k) t.width t.rows t.inks (dot t)
    → ((p : Printer) (h : Halftone) → p.inks ≡ q.inks → HasDots p h t.width t.rows t.inks (dot t) → n ≡ halftone_dots p h)
    → n ≡ page_dots page p k
dots_counted {p} k t page n same has counts =
    counts p (halftone page p k) (ap (λ (r : Printer). r.inks) (sym same)) has ∙ page_dots-is p k page

pub one_counted : (p : Printer) (k : Screening)
    (before now next : List Account) (pages : List Page) (page : Page) (n : InkCounts) → n ≡ page_dots page p k
    → CountsPages p k (record { before = before; now = now }) pages → All (HasRoom n) now → next ≡ map (added n) now
    → CountsPages p k (record { before = before; now = next }) (pages ++ page ∷ [])
one_counted p k before now next pages page n are counts room is =
    let R : InkCounts → Type 0 = λ m. All (HasRoom m) now in
    record {
      admitted = admitted-append p k pages page before counts.admitted
          (subst (All (HasRoom (page_dots page p k))) counts.counts (subst R are room));
      counts = is ∙ ap (λ (m : InkCounts). map (added m) now) are
          ∙ ap (map (added (page_dots page p k))) counts.counts ∙ sym (counted-append p k pages page before);
    }
