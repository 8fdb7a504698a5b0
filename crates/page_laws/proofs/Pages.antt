-- What the machine makes of the strokes of a page.
use Rattle.std.proofs.Common.{◌≡◌, ℕ, ◌+◌, ◌-◌, ◌*◌, ◌<◌, ◌≤◌, Bool, true, false, ◌||◌, cond, List, [], ◌∷◌, ◌++◌, suc, refl}
use Rattle.std.proofs.Common.{sym, ◌∙◌, ap, arith, subst, append_assoc, filter, flat_map}
use Rattle.std.specs.List.{list_any, AllByRecursion}
use Rattle.std.specs.Prelude.{slice_index_or}
use Rattle.printer_definitions.specs.declared.inks.Ink.{Ink}
use Rattle.printer_definitions.specs.declared.inks.Ink.TheVariants.{Black}
use Rattle.printer_definitions.specs.Inks.{inks_of}
use Rattle.printer_definitions.specs.Printer.{Printer, row_units}
use Rattle.escp2_definitions.specs.declared.command.Command.TheVariants as c
use Rattle.escp2_definitions.specs.Machine.{Dot, Machine, Sheet, execute_from, given, start, with_sheets}
use Rattle.page_definitions.specs.Strokes.{GoDown, IsOnWindow, IsWhole, Spoken, Stroke, down_by, fires, has_dot}
use Rattle.page_definitions.specs.Strokes.{rows_fired, say, stroke_fired, strokes_commands}
use Rattle.page_laws.proofs.Once.{Once, once-front, once-regroup}
use Rattle.page_laws.proofs.Fired.{blank-rows, or-false}
use Rattle.page_laws.proofs.Running.{Comes, Goes, IsLayout, Layout, begins, comes-then, entries, goes-as}
use Rattle.page_laws.proofs.Running.{goes-here, goes-then, one, one-runs, paused}
use Rattle.page_laws.proofs.Prologue.{down-run, prologue-run}
use Rattle.page_laws.proofs.Firing.{Lies, fires_ink, inks-run}

-- ---- the strokes that have a dot

-- A list of which one passes has one that passes.
passes : {X : Type 0} (test : X → Bool) (xs : List X) → list_any test xs ≡ true → (x : X) × (test x ≡ true)
passes {X = X} test [] e = absurd (let no : ⊥ = cc in no)
passes {X = X} test (x ∷ xs) e = grind (arith, passes test xs)

-- Rows with a dot have a place where a row has one.
row-passes : (rows : List (List Bool)) → has_dot rows ≡ true → (i : ℕ) × (list_any (λ on. on) (slice_index_or rows i []) ≡ true)
row-passes [] e = absurd (let no : ⊥ = cc in no)
row-passes (row ∷ rows) e = by_row (list_any (λ on. on) row) refl (row-passes rows)
  where
    by_row : (b : Bool) → list_any (λ on. on) row ≡ b
        → (has_dot rows ≡ true → (i : ℕ) × (list_any (λ on. on) (slice_index_or rows i []) ≡ true))
        → (i : ℕ) × (list_any (λ on. on) (slice_index_or (row ∷ rows) i []) ≡ true)
    by_row true f rest = (0, f)
    by_row false f rest = let below = rest (ap (λ b. b || has_dot rows) (sym f) ∙ e) in (suc below.0, below.1)

-- a stroke with a dot begins above the window's end
pub begins-low : (p : Printer) (above height : ℕ) (stroke : Stroke)
    → ((ink : Ink) → IsOnWindow p.pitch above height stroke.start (stroke.rows ink))
    → fires p stroke ≡ true → stroke.start < above + height
begins-low p above height stroke on e =
    let ink = passes (λ ink. has_dot (stroke.rows ink)) (inks_of p.inks) e in
    let row = row-passes (stroke.rows ink.0) ink.1 in
    omega (arith, ((on ink.0).row row.0 row.1).1)

-- the strokes with a dot lie on the window
pub all-lie : (w : Layout) (strokes : List Stroke)
    → AllByRecursion (λ stroke. (ink : Ink) → IsWhole w.printer.nozzles w.halftone.width (stroke.rows ink)) strokes
    → AllByRecursion (λ stroke. (ink : Ink) → IsOnWindow w.printer.pitch w.above w.halftone.height stroke.start (stroke.rows ink)) strokes
    → AllByRecursion (Lies w) (filter (fires w.printer) strokes)
all-lie w [] whole on = tt
all-lie w (stroke ∷ strokes) whole on = by_stroke (fires w.printer stroke) refl (all-lie w strokes whole.1 on.1)
  where
    by_stroke : (b : Bool) → fires w.printer stroke ≡ b → AllByRecursion (Lies w) (filter (fires w.printer) strokes)
        → AllByRecursion (Lies w) (cond b (stroke ∷ filter (fires w.printer) strokes) (filter (fires w.printer) strokes))
    by_stroke true e rest =
        (record { whole = whole.0; on_window = on.0; low = begins-low w.printer w.above w.halftone.height stroke on.0 e }, rest)
    by_stroke false e rest = rest

-- strokes that rise from a row rise from one above it
rising-from : (last higher : ℕ) (strokes : List Stroke) → higher ≤ last → GoDown last strokes → GoDown higher strokes
rising-from last higher [] le rising = tt
rising-from last higher (stroke ∷ strokes) le rising = (omega (arith, rising.0), rising.1)

-- some of the strokes rise as all of them do
pub rising-some : (test : Stroke → Bool) (last : ℕ) (strokes : List Stroke) → GoDown last strokes → GoDown last (filter test strokes)
rising-some test last [] rising = tt
rising-some test last (stroke ∷ strokes) rising = grind (arith, rising-from, rising-some test stroke.start strokes rising.1)

-- inks without a dot fire none
none-each : (p : Printer) (above : ℕ) (stroke : Stroke) (inks : List Ink) → list_any (λ ink. has_dot (stroke.rows ink)) inks ≡ false
    → flat_map (λ ink. rows_fired p above ink stroke.start (stroke.rows ink)) inks ≡ []
none-each p above stroke [] e = refl
none-each p above stroke (ink ∷ inks) e =
    let both = or-false (has_dot (stroke.rows ink)) (list_any (λ ink. has_dot (stroke.rows ink)) inks) e in
    ap (λ ds. ds ++ flat_map (λ ink. rows_fired p above ink stroke.start (stroke.rows ink)) inks)
    (blank-rows p above ink stroke.start (stroke.rows ink) both.left)
    ∙ none-each p above stroke inks both.right

-- The strokes with a dot fire all that the strokes fire.
pub strokes-all : (p : Printer) (above : ℕ) (strokes : List Stroke)
    → flat_map (stroke_fired p above) (filter (fires p) strokes) ≡ flat_map (stroke_fired p above) strokes
strokes-all p above [] = refl
strokes-all p above (stroke ∷ strokes) = grind (arith, none-each, strokes-all p above strokes)

-- ---- the strokes, one after another

-- the dots and the commands of strokes
abbrev pub strokes_dots : Layout → List Stroke → List Dot
strokes_dots w strokes = flat_map (stroke_fired w.printer w.above) strokes

abbrev pub fires_strokes : Layout → ℕ → List Stroke → List Spoken
fires_strokes w last strokes = strokes_commands w.printer w.halftone.width w.coding.c last strokes

-- strokes fire their dots, one after another
pub strokes-run : (w : Layout) (strokes : List Stroke) (last : ℕ) (dots : List Dot) (job : List Spoken) → IsLayout w
    → GoDown last strokes → AllByRecursion (Lies w) strokes → Once (dots ++ strokes_dots w strokes)
    → (row : ℕ) × Goes w last dots (fires_strokes w last strokes ++ job) row (dots ++ strokes_dots w strokes) job
strokes-run w [] last dots job is rising lie once = (last, goes-here w last dots [] job refl)
strokes-run w (stroke ∷ strokes) last dots job is rising lie once =
    let at : ℕ = stroke.start in
    let now : List Dot = stroke_fired w.printer w.above stroke in
    let later : List Dot = strokes_dots w strokes in
    let say_down : List Spoken = down_by ((at - last) * row_units w.printer) in
    let say_inks : List Spoken = flat_map (fires_ink w stroke) (inks_of w.printer.inks) in
    let say_rest : List Spoken = fires_strokes w at strokes in
    let after_it = strokes-run w strokes at (dots ++ now) job is rising.1 lie.1 (once-regroup dots now later once) in
    let down = down-run w last at dots (say_inks ++ (say_rest ++ job)) is rising.0 lie.0.low in
    let inks = inks-run w stroke (inks_of w.printer.inks) dots (say_rest ++ job) is lie.0 (once-front dots now later once) in
    let regrouped : (say_down ++ (say_inks ++ say_rest)) ++ job ≡ say_down ++ (say_inks ++ (say_rest ++ job)) = simp append_assoc in (
      after_it.0,
      goes-as w last after_it.0 dots ((dots ++ now) ++ later) (dots ++ (now ++ later))
          ((say_down ++ (say_inks ++ say_rest)) ++ job) (say_down ++ (say_inks ++ (say_rest ++ job))) job
          regrouped (append_assoc dots now later)
          (goes-then w last at after_it.0 dots dots ((dots ++ now) ++ later)
          (say_down ++ (say_inks ++ (say_rest ++ job))) (say_inks ++ (say_rest ++ job)) job
          down
          (goes-then w at at after_it.0 dots (dots ++ now)
          ((dots ++ now) ++ later) (say_inks ++ (say_rest ++ job)) (say_rest ++ job) job inks after_it.1)),
    )

-- ---- a whole page

-- the commands of a page of these strokes
abbrev pub page_says : Layout → List Stroke → List Spoken
page_says w strokes = begins w ++ (fires_strokes w 0 (filter (fires w.printer) strokes) ++ (say c.Eject ∷ say c.Init ∷ []))

-- A job that has come to the end of a page gives the current sheet, and leaves the machine as at the start.
ends : (w : Layout) (m : Machine) (first : List Spoken) (row across columns : ℕ) (ink : Ink) (dots : List Dot) (job : List Spoken) (at : ℕ)
    → Comes w m first (paused w row across columns ink dots) (say c.Eject ∷ say c.Init ∷ job)
    → (sheet : Sheet) × (at' : ℕ) × (sheet.dots ≡ dots)
    × (execute_from w.printer m (entries w.coding.code at first)
    ≡ with_sheets (sheet ∷ []) (execute_from w.printer start (entries w.coding.code at' job)))
ends w m first row across columns ink dots job at comes =
    let last : Machine = paused w row across columns ink dots in
    let empty : Machine = record last { columns = 1; dots = []; down = 0; across = 0 } in
    let there = comes at in
    let ejected = one-runs w last c.Eject [] (say c.Init ∷ job) there.0 refl in
    let reset = one w empty c.Init [] job refl refl ejected.0 in
    (_, reset.0, refl, there.1 ∙ ejected.1 ∙ ap (with_sheets (given w.printer last c.Eject)) reset.1)

-- The job of a page gives one sheet with the dots that its strokes fire, and leaves the machine as at the start.
pub page-run : (w : Layout) (strokes : List Stroke) (m : Machine) (job : List Spoken) (at : ℕ) → IsLayout w → m.dots ≡ []
    → GoDown 0 strokes → AllByRecursion (Lies w) (filter (fires w.printer) strokes) → Once (strokes_dots w strokes)
    → (sheet : Sheet) × (at' : ℕ) × (sheet.dots ≡ strokes_dots w strokes)
    × (execute_from w.printer m (entries w.coding.code at (page_says w strokes ++ job))
    ≡ with_sheets (sheet ∷ []) (execute_from w.printer start (entries w.coding.code at' job)))
page-run w strokes m job at is blank rising lie once =
    let fired : List Stroke = filter (fires w.printer) strokes in
    let dots : List Dot = strokes_dots w fired in
    let tail : List Spoken = say c.Eject ∷ say c.Init ∷ job in
    let fire : List Spoken = fires_strokes w 0 fired in
    let P : List Dot → Type 0 = λ ds. Once ds in
    let passed = strokes-run w fired 0 [] tail is (rising-some (fires w.printer) 0 strokes rising) lie
    (subst P (sym (strokes-all w.printer w.above strokes)) once) in
    let gone = passed.1 0 1 Black in
    let last : Machine = paused w passed.0 gone.0 gone.1 gone.2 dots in
    let comes : Comes w m (begins w ++ (fire ++ tail)) last tail =
    comes-then w m (paused w 0 0 1 Black []) last
    (begins w ++ (fire ++ tail)) (fire ++ tail) tail (prologue-run w m (fire ++ tail) is blank) gone.3 in
    let ended = ends w m (begins w ++ (fire ++ tail)) passed.0 gone.0 gone.1 gone.2 dots job at comes in
    let regrouped : (begins w ++ (fire ++ (say c.Eject ∷ say c.Init ∷ []))) ++ job ≡ begins w ++ (fire ++ tail) =
    append_assoc (begins w) (fire ++ (say c.Eject ∷ say c.Init ∷ [])) job
    ∙ ap (λ j. begins w ++ j) (append_assoc fire (say c.Eject ∷ say c.Init ∷ []) job) in (
      ended.0,
      ended.1,
      ended.2 ∙ strokes-all w.printer w.above strokes,
      ap (λ j. execute_from w.printer m (entries w.coding.code at j)) regrouped ∙ ended.3,
    )
