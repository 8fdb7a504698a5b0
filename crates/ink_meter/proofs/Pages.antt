-- Pages on meters, one more and the first of them.
use Rattle.std.proofs.Common.{◌≡◌, List, [], ◌∷◌, ◌++◌, map, All, refl}
use Rattle.page_definitions.specs.Dots.{Screening}
use Rattle.ink_meter.specs.Accounts.{Account, HasRoom, added}
use Rattle.page_definitions.specs.Dots.{halftone}
use Rattle.ink_meter.specs.Counts.{Admitted, counted, halftone_dots, page_dots}
use Rattle.printer_definitions.specs.Printer.{Printer}
use Rattle.pwg_definitions.specs.Stream.{Page}

pub counted-append : (p : Printer) (k : Screening) (pages : List Page) (page : Page) (accounts : List Account)
    → counted p k (pages ++ page ∷ []) accounts ≡ map (added (page_dots page p k)) (counted p k pages accounts)
counted-append p k [] page accounts = refl
counted-append p k (first ∷ pages) page accounts = counted-append p k pages page (map (added (page_dots first p k)) accounts)

pub admitted-append : (p : Printer) (k : Screening) (pages : List Page) (page : Page) (accounts : List Account)
    → Admitted p k pages accounts
    → All (HasRoom (page_dots page p k)) (counted p k pages accounts) → Admitted p k (pages ++ page ∷ []) accounts
admitted-append p k [] page accounts admitted room = (room, tt)
admitted-append p k (first ∷ pages) page accounts admitted room =
    (admitted.0, admitted-append p k pages page (map (added (page_dots first p k)) accounts) admitted.1 room)

-- where the pages are admitted there was room for each
pub admitted-next : (p : Printer) (k : Screening) (pages : List Page) (page : Page) (later : List Page) (accounts : List Account)
    → Admitted p k (pages ++ page ∷ later) accounts → All (HasRoom (page_dots page p k)) (counted p k pages accounts)
admitted-next p k [] page later accounts admitted = admitted.0
admitted-next p k (first ∷ pages) page later accounts admitted =
    admitted-next p k pages page later (map (added (page_dots first p k)) accounts) admitted.1

pub page_dots-is : (p : Printer) (k : Screening) (page : Page) → halftone_dots p (halftone page p k) ≡ page_dots page p k
unfolding page_dots
page_dots-is p k page = refl
