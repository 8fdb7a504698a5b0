-- The dots that a raster of a stroke fires.
use Rattle.std.proofs.lemmas.Grind.{common_steps}
use Rattle.std.proofs.Common.{◌≡◌, ℕ, suc, ◌+◌, ◌-◌, ◌*◌, ◌/◌, ◌<◌, ◌≤◌, Bool, true, false, nat_le, ◌||◌, List, [], ◌∷◌, ◌++◌}
use Rattle.std.proofs.Common.{length, refl, sym, ◌∙◌, ap, arith, append-nil}
use Rattle.std.specs.List.{list_any, flat_map, AllByRecursion}
use Rattle.std.proofs.lemmas.Bool.Decides.{nat_tests}
use Rattle.std.proofs.lemmas.List.{take_at, drop_at}
use Rattle.printer_definitions.specs.declared.inks.Ink.{Ink}
use Rattle.printer_definitions.specs.Printer.{Printer, column_step, nozzle_step, row_step}
use Rattle.escp2_definitions.specs.declared.command.RasterHead.{RasterHead}
use Rattle.escp2_definitions.specs.Machine.{Dot, row_dots, rows_dots}
use Rattle.base_definitions.specs.Packed.{packed}
use Rattle.page_definitions.specs.Strokes.{IsOnWindow, has_dot, row_fired, rows_fired}
use Rattle.separation_definitions.specs.CanPrint.{CanPrint}
use Rattle.page_laws.proofs.Numbers.{column_place, nozzle_step-is, rises, row_place, row_step-some}
use Rattle.page_laws.proofs.Packing.{packed_bytes-len, row-packed}

-- ---- packed rows are fired as they are

-- rows that are each as wide as this
abbrev pub AllWide : ℕ → List (List Bool) → Type 0
AllWide width rows = AllByRecursion (λ row. length row ≡ width) rows

-- the dots of rows, one below the other, as the machine fires them
abbrev pub steps_fired : Ink → ℕ → ℕ → ℕ → List (List Bool) → List Dot
steps_fired ink step v y [] = []
steps_fired ink step v y (row ∷ rows) = row_dots ink 0 step y row ++ steps_fired ink step v (y + v) rows

-- the bytes of a row of this width
pub packed-len : (width : ℕ) (row : List Bool) → length row ≡ width → length (packed row) ≡ (width + 7) / 8
packed-len width row e = packed_bytes-len ((length row + 7) / 8) row ∙ ap (λ w. (w + 7) / 8) e

-- what a raster of packed rows fires
pub rows_dots-fired : (header : RasterHead) (ink : Ink) (y : ℕ) (rows : List (List Bool)) → AllWide header.n rows
    → rows_dots (length rows) header ink 0 y (flat_map packed rows) ≡ steps_fired ink header.h header.v y rows
unfolding rows_dots
rows_dots-fired header ink y [] wide = refl
rows_dots-fired header ink y (row ∷ rows) wide =
    grind (arith, common_steps, append-nil, drop_at, packed-len, row-packed, take_at, rows_dots-fired header ink (y + header.v) rows wide.1)

-- ---- blank rows

-- what is false of two is false of each
pub or-false : (a b : Bool) → (a || b) ≡ false → record { left : a ≡ false; right : b ≡ false }
or-false true b e = record { left = e; right = absurd (let no : ⊥ = cc in no) }
or-false false b e = record { left = refl; right = e }

-- a row without a dot fires none
blank-dots : (ink : Ink) (x step y : ℕ) (row : List Bool) → list_any (λ on. on) row ≡ false → row_dots ink x step y row ≡ []
blank-dots ink x step y [] e = refl
blank-dots ink x step y (true ∷ row) e = cc
blank-dots ink x step y (false ∷ row) e = blank-dots ink (x + step) step y row e

-- a row without a dot has no place on paper
pub blank-row : (p : Printer) (ink : Ink) (y x : ℕ) (row : List Bool) → list_any (λ on. on) row ≡ false → row_fired p ink y x row ≡ []
blank-row p ink y x [] e = refl
blank-row p ink y x (true ∷ row) e = cc
blank-row p ink y x (false ∷ row) e = blank-row p ink y (x + 1) row e

-- rows without a dot have no place on paper
pub blank-rows : (p : Printer) (above : ℕ) (ink : Ink) (start : ℕ) (rows : List (List Bool))
    → has_dot rows ≡ false → rows_fired p above ink start rows ≡ []
blank-rows p above ink start [] e = refl
blank-rows p above ink start (row ∷ rows) e =
    let both = or-false (list_any (λ on. on) row) (has_dot rows) e in
    ap (λ ds. ds ++ rows_fired p above ink (start + p.pitch) rows) (blank-row p ink (start - above) 0 row both.left)
    ∙ blank-rows p above ink (start + p.pitch) rows both.right

-- ---- what the machine fires is where it is fired on paper

-- a row at its place
row-is : (p : Printer) (ink : Ink) (y x place : ℕ) (row : List Bool) → CanPrint p → place ≡ (p.top + y) * 3600 / p.vdpi
    → row_dots ink (x * column_step p) (column_step p) place row ≡ row_fired p ink y x row
row-is p ink y x place [] can e = refl
row-is p ink y x place (true ∷ row) can e = grind (arith, column_place, row-is p ink y (x + 1) place row can e)
row-is p ink y x place (false ∷ row) can e = grind (arith, row-is p ink y (x + 1) place row can e)

-- The rows below the first lie on the window as well.
pub on_window-next : (pitch above height start : ℕ) (row : List Bool) (rows : List (List Bool))
    → IsOnWindow pitch above height start (row ∷ rows)
    → IsOnWindow pitch above height (start + pitch) rows
on_window-next pitch above height start row rows is = record {
  row = λ i e.
      let here : (above ≤ start + suc i * pitch) × (start + suc i * pitch < above + height) = is.row (suc i) e in
      (omega (arith, here.0), omega (arith, here.1));
}

-- The first row lies on the window, where it has a dot.
pub on_window-first : (pitch above height start : ℕ) (row : List Bool) (rows : List (List Bool))
    → IsOnWindow pitch above height start (row ∷ rows)
    → list_any (λ on. on) row ≡ true → (above ≤ start) × (start < above + height)
on_window-first pitch above height start row rows is e =
    let here : (above ≤ start + 0 * pitch) × (start + 0 * pitch < above + height) = is.row 0 e in
    (omega (arith, here.0), omega (arith, here.1))

-- the rows of a stroke at their places
pub rows-are : (p : Printer) (above height : ℕ) (ink : Ink) (start place : ℕ) (rows : List (List Bool)) → CanPrint p → above ≤ p.top
    → IsOnWindow p.pitch above height start rows → place ≡ (p.top - above + start) * row_step p
    → steps_fired ink (column_step p) (nozzle_step p) place rows ≡ rows_fired p above ink start rows
rows-are p above height ink start place [] can room is e = refl
rows-are p above height ink start place (row ∷ rows) can room is e =
    let s : ℕ = row_step p in
    let v : ℕ = nozzle_step p in
    let next : place + v ≡ (p.top - above + (start + p.pitch)) * s = omega (arith, e, nozzle_step-is p can) in
    ap (λ ds. ds ++ steps_fired ink (column_step p) v (place + v) rows) (here (list_any (λ on. on) row) refl)
    ∙ ap (λ ds. row_fired p ink (start - above) 0 row ++ ds)
    (rows-are p above height ink (start + p.pitch) (place + v) rows can room (on_window-next p.pitch above height start row rows is) next)
  where
    here : (b : Bool) → list_any (λ on. on) row ≡ b → row_dots ink 0 (column_step p) place row ≡ row_fired p ink (start - above) 0 row
    here false f = blank-dots ink 0 (column_step p) place row f ∙ sym (blank-row p ink (start - above) 0 row f)
    here true f =
        let on = on_window-first p.pitch above height start row rows is f in
        let zero-times : 0 ≡ 0 * column_step p = omega arith in
        let lower : p.top - above + start ≡ p.top + (start - above) = omega (arith, on.0, room) in
        let at : place ≡ (p.top + (start - above)) * 3600 / p.vdpi =
        e ∙ ap (λ n. n * row_step p) lower ∙ sym (row_place p (p.top + (start - above)) can) in
        ap (λ x. row_dots ink x (column_step p) place row) zero-times ∙ row-is p ink (start - above) 0 place row can at

-- ---- the dots are on the sheet

-- where none passes and the element before does not either
pub none-of : {X : Type 0} (test : X → Bool) (x : X) (xs : List X)
    → test x ≡ false → list_any test xs ≡ false → list_any test (x ∷ xs) ≡ false
none-of test x xs e f = ap (λ b. b || list_any test xs) e ∙ f

-- where none of two lists passes, none of both does
none-both : {X : Type 0} (test : X → Bool) (xs ys : List X)
    → list_any test xs ≡ false → list_any test ys ≡ false → list_any test (xs ++ ys) ≡ false
none-both test [] ys e f = f
none-both test (x ∷ xs) ys e f =
    let both = or-false (test x) (list_any test xs) e in none-of test x (xs ++ ys) both.left (none-both test xs ys both.right f)

-- a row above the bottom margin has no dot below it
row-low : (p : Printer) (ink : Ink) (y x bottom : ℕ) (row : List Bool) → (p.top + y) * 3600 / p.vdpi < bottom
    → list_any (λ d. nat_le bottom d.y) (row_fired p ink y x row) ≡ false
row-low p ink y x bottom [] low = refl
row-low p ink y x bottom (true ∷ row) low = grind (arith, nat_tests, none-of, row-low p ink y (x + 1) bottom row low)
row-low p ink y x bottom (false ∷ row) low = row-low p ink y (x + 1) bottom row low

-- The dots of rows on the window are above the bottom margin.
pub on_sheet : (p : Printer) (above height : ℕ) (ink : Ink) (start bottom : ℕ) (rows : List (List Bool)) → CanPrint p
    → IsOnWindow p.pitch above height start rows → bottom ≡ (p.top + height) * row_step p
    → list_any (λ d. nat_le bottom d.y) (rows_fired p above ink start rows) ≡ false
on_sheet p above height ink start bottom [] can is e = refl
on_sheet p above height ink start bottom (row ∷ rows) can is e =
    grind (arith, blank-row, none-both, on_window-first, on_window-next, rises, row-low, row_place, row_step-some, on_sheet p above height ink (start + p.pitch) bottom rows can (on_window-next p.pitch above height start row rows is) e)
