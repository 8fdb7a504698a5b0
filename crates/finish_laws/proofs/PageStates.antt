-- What the state of a page says of the machine, and the commands that end the page.
use Rattle.std.proofs.Common.{◌≡◌, ℕ, Bool, true, false, nat_lt, if◌then◌else◌, List, [], ◌∷◌, length, ◌+◌}
use Rattle.std.proofs.Common.{Option, None, Some, is_none, refl, sym, ◌∙◌, ap, arith}
use Rattle.std.proofs.lemmas.Bool.{lt-ltb}
use Rattle.printer_definitions.specs.Printer.{Printer}
use Rattle.escp2_definitions.specs.declared.command.Command.{Command}
use Rattle.escp2_definitions.specs.declared.command.Command.TheVariants as c
use Rattle.escp2_definitions.specs.declared.stops.EmulatorFault.{EmulatorFault}
use Rattle.escp2_definitions.specs.declared.stops.EmulatorFault.TheVariants.{NoMargins}
use Rattle.escp2_definitions.specs.Commands.{Entry}
use Rattle.escp2_definitions.specs.Machine.{Dot, Machine, Refusal, after, execute_from, first_refusal, given, refusals, with_sheets}
use Rattle.page_definitions.specs.Printing.{state_after}
use Rattle.finish_definitions.specs.Finished.{goes_on, page_after, page_from}
use Rattle.finish_definitions.specs.declared.state.PageState.{PageState}
use Rattle.finish_definitions.specs.declared.state.PageState.TheVariants.{Between, Begun, Open, Ejected}
use Rattle.finish_laws.specs.Sheets.{sheets_open}
use Rattle.finish_laws.proofs.Ends.{ending_entries, entry_at}
use Rattle.finish_laws.proofs.Runs.{head-accepted, head-runs, tail-accepted}

-- ---- what an accepted command passed

-- a test that found nothing to refuse, and those after it
passed : (holds : Bool) (fault : EmulatorFault) (others : Option EmulatorFault) → (if holds then Some fault else others) ≡ None
    → (holds ≡ false) × (others ≡ None)
passed true fault others none = absurd (let no : Some fault ≡ None = none in cc)
passed false fault others none = (refl, none)

-- none of these tests holds
abbrev pub Passed : List Refusal → Type 0
Passed [] = Unit {0}
Passed (refusal ∷ others) = (refusal.holds ≡ false) × Passed others

-- An accepted command passed each test.
pub passes : (tests : List Refusal) → first_refusal tests ≡ None → Passed tests
passes [] none = tt
passes (refusal ∷ others) none =
    let first = passed refusal.holds refusal.fault (first_refusal others) none in
    (first.0, passes others first.1)

-- a sheet has no dots
pub blank : (dots : List Dot) → nat_lt 0 (length dots) ≡ false → dots ≡ []
blank [] none = refl
blank (d ∷ dots) none = grind (arith, lt-ltb)

-- ---- what the state of a page says of the machine

-- There are no dots before the margins are set, nor behind a form feed; margins are set from then on.
abbrev pub Fits : PageState → Machine → Type 0
Fits Between m = (m.margins ≡ None) × (m.dots ≡ [])
Fits Begun m = (m.margins ≡ None) × (m.dots ≡ [])
Fits Open m = is_none m.margins ≡ false
Fits Ejected m = (is_none m.margins ≡ false) × (m.dots ≡ [])

-- a command that keeps the margins and the dots
fits-on : (state : PageState) (m next : Machine) → next.margins ≡ m.margins → next.dots ≡ m.dots → Fits state m
    → Fits (goes_on state false) next
fits-on Between m next margins dots fits = (margins ∙ fits.0, dots ∙ fits.1)
fits-on Begun m next margins dots fits = (margins ∙ fits.0, dots ∙ fits.1)
fits-on Open m next margins dots fits = ap is_none margins ∙ fits
fits-on Ejected m next margins dots fits = (ap is_none margins ∙ fits.0, dots ∙ fits.1)

-- a command that needs margins, and keeps them
fits-paper : (state : PageState) (m next : Machine) → is_none m.margins ≡ false → next.margins ≡ m.margins → Fits state m
    → Fits (goes_on state true) next
fits-paper Between m next set margins fits = absurd (let no : true ≡ false = sym (ap is_none fits.0) ∙ set in cc)
fits-paper Begun m next set margins fits = absurd (let no : true ≡ false = sym (ap is_none fits.0) ∙ set in cc)
fits-paper Open m next set margins fits = ap is_none margins ∙ fits
fits-paper Ejected m next set margins fits = ap is_none margins ∙ fits.0

-- an accepted command
fits-after : (p : Printer) (m : Machine) (state : PageState) (command : Command) (rows : List ℕ)
    → first_refusal (refusals p m command rows) ≡ None → Fits state m → Fits (page_after state command) (after p m command rows)
fits-after p m state c.Init rows none fits = (refl, refl)
fits-after p m state c.Graphics rows none fits = fits-on state m _ refl refl fits
fits-after p m state (c.Unit n) rows none fits = fits-on state m _ refl refl fits
fits-after p m state (c.MicroWeave n) rows none fits = fits-on state m _ refl refl fits
fits-after p m state (c.OneWay n) rows none fits = fits-on state m _ refl refl fits
fits-after p m state (c.Length n) rows none fits = (refl, blank m.dots (passes (refusals p m (c.Length n) rows) none).1.0)
fits-after p m state (c.Margins top bottom) rows none fits = refl
fits-after p m state (c.DownTo n) rows none fits = fits-paper state m _ (passes (refusals p m (c.DownTo n) rows) none).1.0 refl fits
fits-after p m state (c.DownBy n) rows none fits = fits-paper state m _ (passes (refusals p m (c.DownBy n) rows) none).1.0 refl fits
fits-after p m state (c.Across n) rows none fits = fits-on state m _ refl refl fits
fits-after p m state c.Return rows none fits = fits-on state m _ refl refl fits
fits-after p m state c.Eject rows none fits = ((passes (refusals p m c.Eject rows) none).0, refl)
fits-after p m state (c.Colour ink) rows none fits = fits-on state m _ refl refl fits
fits-after p m state (c.Raster header) rows none fits =
    fits-paper state m _ (passes (refusals p m (c.Raster header) rows) none).1.1.0 refl fits

-- Accepted commands keep what the state says.
pub fits-all : (p : Printer) (m : Machine) (state : PageState) (entries : List Entry) → (execute_from p m entries).refused ≡ None
    → Fits state m → Fits (page_from state entries) (state_after p m entries)
fits-all p m state [] none fits = fits
fits-all p m state (entry ∷ entries) none fits =
    fits-all p (after p m entry.command entry.rows) (page_after state entry.command) entries (tail-accepted p m entry entries none)
    (fits-after p m state entry.command entry.rows (head-accepted p m entry entries none) fits)

-- ---- the end of a page

-- If no page is open, there are no dots.
pub blank-unopened : (p : Printer) (m : Machine) (state : PageState) → Fits state m → sheets_open state p m ≡ [] → m.dots ≡ []
blank-unopened p m Between fits none = fits.1
blank-unopened p m Begun fits none = fits.1
blank-unopened p m Open fits none = absurd (let no : given p m c.Eject ≡ [] = none in cc)
blank-unopened p m Ejected fits none = fits.1

-- a reset is accepted where there are no dots
reset-accepted : (p : Printer) (m : Machine) → m.dots ≡ [] → first_refusal (refusals p m c.Init []) ≡ None
reset-accepted p m none = ap (λ (ds : List Dot). first_refusal (refusals p (record m { dots = ds }) c.Init [])) none

-- The commands that end a page are accepted, and give the sheet of an open page.
pub ending-runs : (p : Printer) (m : Machine) (state : PageState) (at : ℕ) → Fits state m
    → execute_from p m (ending_entries state at) ≡ record { sheets = sheets_open state p m; refused = None }
unfolding execute_from
ending-runs p m Between at fits = refl
ending-runs p m Begun at fits = head-runs p m (entry_at at c.Init) [] (reset-accepted p m fits.1)
ending-runs p m Open at fits =
    head-runs p m (entry_at at c.Eject) (entry_at (at + 1) c.Init ∷ []) (ap (λ b. if b then Some NoMargins else None) fits)
    ∙ ap (with_sheets (given p m c.Eject)) (head-runs p (after p m c.Eject []) (entry_at (at + 1) c.Init) [] refl)
ending-runs p m Ejected at fits = head-runs p m (entry_at at c.Init) [] (reset-accepted p m fits.1)
