-- What the machine makes of the inks of a stroke.
use Rattle.std.proofs.Common.{◌≡◌, ℕ, ◌+◌, ◌-◌, ◌*◌, ◌/◌, ◌%◌, ◌<◌, ◌≤◌, Bool, true, false, not, ◌||◌, ◌==◌, nat_lt, nat_le, if◌then◌else◌}
use Rattle.std.proofs.Common.{List, [], ◌∷◌, ◌++◌, Option, None, refl, ◌∙◌, ap, arith, append_assoc, flat_map}
use Rattle.std.specs.List.{list_any}
use Rattle.std.proofs.lemmas.Bool.{eq-eqb, le-ltb}
use Rattle.base_definitions.specs.Limits.{most_columns}
use Rattle.printer_definitions.specs.declared.inks.Ink.{Ink}
use Rattle.printer_definitions.specs.Printer.{column_step, nozzle_step, row_step, row_units}
use Rattle.escp2_definitions.specs.declared.command.RasterHead.{RasterHead}
use Rattle.escp2_definitions.specs.declared.command.Command.TheVariants as c
use Rattle.escp2_definitions.specs.declared.stops.EmulatorFault.{EmulatorFault}
use Rattle.escp2_definitions.specs.declared.stops.EmulatorFault.TheVariants.{NotGraphics, NoUnit, NoMargins, Density, Rows, OffGrid}
use Rattle.escp2_definitions.specs.declared.stops.EmulatorFault.TheVariants.{OffSheet, Overprint}
use Rattle.escp2_definitions.specs.Machine.{Dot, Machine, after, first_refusal, is_off_grid, is_off_sheet, is_other_density}
use Rattle.escp2_definitions.specs.Machine.{overprints, raster_dots, refusals, refuse, rows_dots}
use Rattle.base_definitions.specs.Packed.{packed}
use Rattle.page_definitions.specs.Strokes.{IsOnWindow, IsWhole, Spoken, Stroke, has_dot, ink_commands, raster_header, rows_fired, say}
use Rattle.page_laws.proofs.Numbers.{column_step-some, on_grid, row_step-some, row_units-is}
use Rattle.page_laws.proofs.Once.{Once, once-front, once-regroup}
use Rattle.page_laws.proofs.Fired.{blank-rows, on_sheet, rows-are, rows_dots-fired}
use Rattle.page_laws.proofs.Twice.{not_twice}
use Rattle.page_laws.proofs.Running.{Goes, IsLayout, Layout, comes-as, comes-then, first_of, goes-as}
use Rattle.page_laws.proofs.Running.{goes-here, goes-then, last_of, one, paused}
use Rattle.page_laws.proofs.Prologue.{place-is}

-- ---- strokes of a page

-- A stroke that fires within the window: its rows are whole, and the head is above the window's end.
pub record Lies (w : Layout) (stroke : Stroke) : Type 0 where
  pub whole : (ink : Ink) → IsWhole w.printer.nozzles w.halftone.width (stroke.rows ink)
  pub on_window : (ink : Ink) → IsOnWindow w.printer.pitch w.above w.halftone.height stroke.start (stroke.rows ink)
  pub low : stroke.start < w.above + w.halftone.height

-- the header of the page's rasters
abbrev pub header_of : Layout → RasterHead
header_of w = raster_header w.printer w.halftone.width w.coding.c

-- the dots of an ink of a stroke, and those of its inks
abbrev pub ink_fired : Layout → Stroke → Ink → List Dot
ink_fired w stroke ink = rows_fired w.printer w.above ink stroke.start (stroke.rows ink)

-- the commands of an ink of a stroke
abbrev pub fires_ink : Layout → Stroke → Ink → List Spoken
fires_ink w stroke ink = ink_commands w.printer w.halftone.width w.coding.c stroke ink

-- ---- one ink

-- the dots that the raster of an ink fires
new-dots : (w : Layout) (stroke : Stroke) (ink : Ink) → IsLayout w → Lies w stroke
    → rows_dots w.printer.nozzles (header_of w) ink 0 (first_of w * 5 + stroke.start * row_units w.printer * 5)
    (flat_map packed (stroke.rows ink)) ≡ ink_fired w stroke ink
new-dots w stroke ink is lies = grind (arith, first_of, header_of, place-is, rows-are, rows_dots-fired)

-- what is false of each is false of both
neither : (a b : Bool) → a ≡ false → b ≡ false → (a || b) ≡ false
neither true b e f = e
neither false b e f = f

-- 0 divided by a step
zero-over : (n : ℕ) → 1 ≤ n → record { rest : 0 % n ≡ 0; over : 0 / n ≡ 0 }
zero-over n some = record { rest = omega arith; over = omega arith }

-- the raster is not refused
raster-accepted : (w : Layout) (stroke : Stroke) (ink : Ink) (columns : ℕ) (dots : List Dot)
    → IsLayout w → Lies w stroke → Once (dots ++ ink_fired w stroke ink)
    → first_refusal (refusals w.printer
    (paused w stroke.start 0 columns ink dots) (c.Raster (header_of w)) (flat_map packed (stroke.rows ink))) ≡ None
raster-accepted w stroke ink columns dots is lies once =
    let s : Machine = paused w stroke.start 0 columns ink dots in
    let rows : List ℕ = flat_map packed (stroke.rows ink) in
    let bottom : ℕ = last_of w * 5 in
    let at : ℕ = first_of w * 5 + stroke.start * row_units w.printer * 5 in
    let fired : List Dot = raster_dots s (header_of w) rows in
    let wanted : List Dot = ink_fired w stroke ink in
    let same : fired ≡ wanted = new-dots w stroke ink is lies in
    let across : ℕ = column_step w.printer in
    let zeros = zero-over across (column_step-some w.printer is.can) in
    let bottom_is : bottom ≡ (w.printer.top + w.halftone.height) * row_step w.printer =
    (let grouped : (w.printer.top + w.halftone.height) * row_units w.printer * 5
    ≡ (w.printer.top + w.halftone.height) * (row_units w.printer * 5) = omega arith in
    grouped ∙ ap (λ u. (w.printer.top + w.halftone.height) * u) (row_units-is w.printer is.can)) in
    let at_row : at % row_step w.printer ≡ 0 =
    ap (λ n. n % row_step w.printer) (place-is w stroke.start is)
    ∙ on_grid (w.printer.top - w.above + stroke.start) (row_step w.printer) (row_step-some w.printer is.can) in
    let density : is_other_density w.printer (header_of w) ≡ false =
    neither _ _ (ap not (eq-eqb across across refl)) (ap not (eq-eqb (nozzle_step w.printer) (nozzle_step w.printer) refl)) in
    let nozzles : not (w.printer.nozzles == w.printer.nozzles) ≡ false = ap not (eq-eqb w.printer.nozzles w.printer.nozzles refl) in
    let grid : is_off_grid w.printer s ≡ false = neither _ _ (ap not (eq-eqb _ _ zeros.rest)) (ap not (eq-eqb _ _ at_row)) in
    let columns_fit : nat_lt most_columns (0 / across + w.halftone.width) ≡ false = le-ltb _ _ (omega (arith, zeros.over, is.size.most_width)) in
    let rows_fit : list_any (λ d. nat_le bottom d.y) fired ≡ false =
    ap (list_any (λ d. nat_le bottom d.y)) same
    ∙ on_sheet w.printer w.above w.halftone.height ink stroke.start bottom (stroke.rows ink) is.can (lies.on_window ink) bottom_is in
    let sheet : is_off_sheet w.printer s (header_of w) fired ≡ false = neither _ _ columns_fit rows_fit in
    let over : overprints dots fired ≡ false = ap (overprints dots) same ∙ not_twice dots wanted once in
    let faults : Bool → Bool → Bool → Bool → Bool → Option EmulatorFault = λ density nozzles grid sheet over.
    first_refusal (refuse false NotGraphics ∷ refuse false NoUnit ∷ refuse false NoMargins ∷ refuse density Density ∷ refuse nozzles Rows
    ∷ refuse grid OffGrid ∷ refuse sheet OffSheet ∷ refuse over Overprint ∷ []) in
    ap (λ b. faults b (not (w.printer.nozzles == w.printer.nozzles))
    (is_off_grid w.printer s) (is_off_sheet w.printer s (header_of w) fired) (overprints dots fired)) density
    ∙ ap (λ b. faults false b (is_off_grid w.printer s) (is_off_sheet w.printer s (header_of w) fired) (overprints dots fired)) nozzles
    ∙ ap (λ b. faults false false b (is_off_sheet w.printer s (header_of w) fired) (overprints dots fired)) grid
    ∙ ap (λ b. faults false false false b (overprints dots fired)) sheet
    ∙ ap (faults false false false false) over

-- an ink of a stroke fires its dots
ink-run : (w : Layout) (stroke : Stroke) (ink : Ink) (dots : List Dot) (job : List Spoken)
    → IsLayout w → Lies w stroke → Once (dots ++ ink_fired w stroke ink)
    → Goes w stroke.start dots (fires_ink w stroke ink ++ job) stroke.start (dots ++ ink_fired w stroke ink) job
ink-run w stroke ink dots job is lies once = by_dots (has_dot (stroke.rows ink)) refl
  where
    text : List ℕ
    text = flat_map packed (stroke.rows ink)

    raster : Spoken
    raster = record { command = c.Raster (header_of w); rows = text }

    fire : List Spoken
    fire = say (c.Colour ink) ∷ say c.Return ∷ raster ∷ []

    by_dots : (b : Bool) → has_dot (stroke.rows ink) ≡ b
        → Goes w stroke.start dots (fires_ink w stroke ink ++ job) stroke.start (dots ++ ink_fired w stroke ink) job
    by_dots false e =
        goes-as w stroke.start stroke.start dots
        (dots ++ ink_fired w stroke ink) (dots ++ ink_fired w stroke ink) (fires_ink w stroke ink ++ job) job job
        (ap (λ b. (if b then fire else []) ++ job) e) refl
        (goes-here w stroke.start dots (ink_fired w stroke ink) job (blank-rows w.printer w.above ink stroke.start (stroke.rows ink) e))
    by_dots true e =
        λ across columns old.
        let s0 : Machine = paused w stroke.start across columns old dots in
        let s1 : Machine = paused w stroke.start across columns ink dots in
        let s2 : Machine = paused w stroke.start 0 columns ink dots in
        let s3 : Machine = after w.printer s2 (c.Raster (header_of w)) text in
        let ends : Machine = record s3 { dots = dots ++ ink_fired w stroke ink } in (
          s3.across,
          s3.columns,
          ink,
          comes-as w s0 s3 ends (fires_ink w stroke ink ++ job) (fire ++ job) job (ap (λ b. (if b then fire else []) ++ job) e)
              (ap (λ ds. record s3 { dots = dots ++ ds }) (new-dots w stroke ink is lies))
              (comes-then w s0 s1 s3 (fire ++ job) (say c.Return ∷ raster ∷ job) job
              (one w s0 (c.Colour ink) [] (say c.Return ∷ raster ∷ job) refl refl)
              (comes-then w s1 s2 s3 (say c.Return ∷ raster ∷ job) (raster ∷ job) job (one w s1 c.Return [] (raster ∷ job) refl refl)
              (one w s2 (c.Raster (header_of w)) text job (raster-accepted w stroke ink columns dots is lies once) refl))),
        )

-- ---- the inks of a stroke

-- the inks of a stroke fire their dots, one after another
pub inks-run : (w : Layout) (stroke : Stroke) (inks : List Ink) (dots : List Dot) (job : List Spoken) → IsLayout w → Lies w stroke
    → Once (dots ++ flat_map (ink_fired w stroke) inks)
    → Goes w stroke.start dots (flat_map (fires_ink w stroke) inks ++ job) stroke.start (dots ++ flat_map (ink_fired w stroke) inks) job
inks-run w stroke [] dots job is lies once = goes-here w stroke.start dots [] job refl
inks-run w stroke (ink ∷ inks) dots job is lies once =
    let at : ℕ = stroke.start in
    let first : List Dot = ink_fired w stroke ink in
    let others : List Dot = flat_map (ink_fired w stroke) inks in
    let said_first : List Spoken = fires_ink w stroke ink in
    let said_others : List Spoken = flat_map (fires_ink w stroke) inks in
    goes-as w at at dots ((dots ++ first) ++ others)
    (dots ++ (first ++ others)) ((said_first ++ said_others) ++ job) (said_first ++ (said_others ++ job)) job
    (append_assoc said_first said_others job) (append_assoc dots first others)
    (goes-then w at at at dots (dots ++ first) ((dots ++ first) ++ others) (said_first ++ (said_others ++ job)) (said_others ++ job) job
    (ink-run w stroke ink dots (said_others ++ job) is lies (once-front dots first others once))
    (inks-run w stroke inks (dots ++ first) job is lies (once-regroup dots first others once)))
