-- What the machine makes of the prologue, and of a step down.
use Rattle.std.proofs.Common.{◌≡◌, ℕ, zero, suc, ◌+◌, ◌-◌, ◌*◌, ◌<◌, ◌≤◌, Bool, true, false, nat_lt, List, [], ◌∷◌}
use Rattle.std.proofs.Common.{◌++◌, length, Option, Some, refl, sym, ◌∙◌, ap, arith}
use Rattle.std.proofs.lemmas.Bool.{le-ltb}
use Rattle.std.proofs.Math.Nat.{mul-le-mul_right}
use Rattle.base_definitions.specs.Limits.{longest_page}
use Rattle.printer_definitions.specs.declared.inks.Ink.TheVariants.{Black}
use Rattle.printer_definitions.specs.Printer.{row_step, row_units}
use Rattle.escp2_definitions.specs.declared.command.Command.TheVariants as c
use Rattle.escp2_definitions.specs.declared.stops.EmulatorFault.{EmulatorFault}
use Rattle.escp2_definitions.specs.declared.stops.EmulatorFault.TheVariants.{NoUnit, NoMargins, Backward, OffSheet}
use Rattle.escp2_definitions.specs.Machine.{Dot, Machine, after, first_refusal, refuse, start}
use Rattle.page_definitions.specs.Strokes.{Spoken, down_by, say}
use Rattle.page_laws.proofs.Numbers.{margins-fit, row_units-is}
use Rattle.page_laws.proofs.Running.{Comes, Goes, IsLayout, Layout, begins, comes-as, comes-here, comes-then}
use Rattle.page_laws.proofs.Running.{first_of, last_of, len_of, one, paused}

-- ---- the prologue

-- From a machine whose sheet has no dot, the prologue leads to the head's first position.
pub prologue-run : (w : Layout) (m : Machine) (job : List Spoken)
    → IsLayout w → m.dots ≡ [] → Comes w m (begins w ++ job) (paused w 0 0 1 Black []) job
prologue-run w m job is blank =
    let len : ℕ = len_of w in
    let first : ℕ = first_of w in
    let last : ℕ = last_of w in
    let s1 : Machine = record start { graphics = true } in
    let s2 : Machine = record s1 { unit = Some 5 } in
    let s3 : Machine = record s2 { page = Some (len * 5) } in
    let s4 : Machine = record s3 { margins = Some (record { top = first * 5; bottom = last * 5 }) } in
    let fits_sheet = margins-fit w.printer w.halftone w.above w.tall is.can is.size in
    let on_sheet : last ≤ len = mul-le-mul_right (row_units w.printer) is.size.low in
    let no_dots : nat_lt 0 (length m.dots) ≡ false = ap (λ ds. nat_lt 0 (length ds)) blank in
    let length_fits : nat_lt longest_page (len * 5) ≡ false = le-ltb _ _ (omega (arith, is.size.short)) in
    let margins_fit : nat_lt (len * 5) (last * 5) ≡ false = le-ltb _ _ (omega (arith, on_sheet)) in
    let top_fits : nat_lt (len * 5) (first * 5 + 0 * 5) ≡ false = le-ltb _ _ (omega (arith, on_sheet, fits_sheet.0)) in
    let j8 : List Spoken = job in
    let j7 : List Spoken = say (c.DownTo 0) ∷ j8 in
    let j6 : List Spoken = say (c.Margins first last) ∷ j7 in
    let j5 : List Spoken = say (c.Length len) ∷ j6 in
    let j4 : List Spoken = say (c.OneWay 1) ∷ j5 in
    let j3 : List Spoken = say (c.MicroWeave 0) ∷ j4 in
    let j2 : List Spoken = say (c.Unit 5) ∷ j3 in
    let j1 : List Spoken = say c.Graphics ∷ j2 in
    let j0 : List Spoken = say c.Init ∷ j1 in
    let may_begin : Bool → Option EmulatorFault = λ b. first_refusal (refuse b Backward ∷ []) in
    let fits : Bool → Option EmulatorFault = λ b. first_refusal (refuse false NoUnit ∷ refuse false Backward ∷ refuse b OffSheet ∷ []) in
    let fits_margins : Bool → Option EmulatorFault = λ b.
    first_refusal (refuse false NoUnit ∷ refuse false NoMargins ∷ refuse false Backward ∷ refuse b OffSheet ∷ []) in
    let from_top : 0 * 5 ≡ 0 * row_units w.printer * 5 = omega arith in
    comes-as w m s4 (paused w 0 0 1 Black []) j0 j0 j8 refl (ap (λ d. record s4 { down = d }) from_top)
    (comes-then w m start s4 j0 j1 j8 (one w m c.Init [] j1 (ap may_begin no_dots) refl)
    (comes-then w start s1 s4 j1 j2 j8 (one w start c.Graphics [] j2 refl refl)
    (comes-then w s1 s2 s4 j2 j3 j8 (one w s1 (c.Unit 5) [] j3 refl refl)
    (comes-then w s2 s2 s4 j3 j4 j8 (one w s2 (c.MicroWeave 0) [] j4 refl refl)
    (comes-then w s2 s2 s4 j4 j5 j8 (one w s2 (c.OneWay 1) [] j5 refl refl)
    (comes-then w s2 s3 s4 j5 j6 j8 (one w s2 (c.Length len) [] j6 (ap fits length_fits) refl)
    (comes-then w s3 s4 s4 j6 j7 j8 (one w s3 (c.Margins first last) [] j7 (ap fits_margins margins_fit) refl)
    (one w s4 (c.DownTo 0) [] j8 (ap fits_margins top_fits) refl))))))))

-- ---- going down

-- where a row is on paper, counted from the head's first position
pub place-is : (w : Layout) (row : ℕ) → IsLayout w
    → first_of w * 5 + row * row_units w.printer * 5 ≡ (w.printer.top - w.above + row) * row_step w.printer
place-is w row is = grind (arith, row_units-is)

-- a step from one row down to another that is on the sheet
pub down-run : (w : Layout) (last row : ℕ) (dots : List Dot) (job : List Spoken)
    → IsLayout w → last ≤ row → row < w.above + w.halftone.height
    → Goes w last dots (down_by ((row - last) * row_units w.printer) ++ job) row dots job
down-run w last row dots job is le low = by_units ((row - last) * row_units w.printer) refl
  where
    u : ℕ
    u = row_units w.printer

    down : (n : ℕ) → (row - last) * u ≡ n → last * u * 5 + n * 5 ≡ row * u * 5
    down n e =
        let whole : last + (row - last) ≡ row = omega arith in
        let summed : last * u * 5 + (row - last) * u * 5 ≡ (last + (row - last)) * u * 5 = omega arith in
        ap (λ m. last * u * 5 + m * 5) (sym e) ∙ summed ∙ ap (λ m. m * u * 5) whole

    fits : first_of w * 5 + row * u * 5 ≤ len_of w * 5
    fits =
        let under : (w.printer.top - w.above + row) * u ≤ w.tall * u = mul-le-mul_right u (omega (arith, is.room, is.size.low)) in
        omega (arith, under)

    by_units : (n : ℕ) → (row - last) * u ≡ n → Goes w last dots (down_by n ++ job) row dots job
    by_units zero e across columns ink = (
      across,
      columns,
      ink,
      comes-as w (paused w last across columns ink dots)
          (paused w last across columns ink dots) (paused w row across columns ink dots) job job job refl
          (ap (λ d. record (paused w last across columns ink dots) { down = d })
          (let same : last * u * 5 ≡ row * u * 5 = omega (arith, down zero e) in same))
          (comes-here w (paused w last across columns ink dots) job),
    )
    by_units (suc n) e across columns ink =
        let s : Machine = paused w last across columns ink dots in
        let on_sheet : nat_lt (len_of w * 5) (first_of w * 5 + last * u * 5 + suc n * 5) ≡ false =
        le-ltb _ _ (omega (arith, fits, down (suc n) e)) in
        let accepted : Bool → Option EmulatorFault =
        λ b. first_refusal (refuse false NoUnit ∷ refuse false NoMargins ∷ refuse b OffSheet ∷ []) in (
          across,
          columns,
          ink,
          comes-as w s (after w.printer s (c.DownBy (suc n)) []) (paused w row across columns ink dots)
              (say (c.DownBy (suc n)) ∷ job) (say (c.DownBy (suc n)) ∷ job) job refl
              (ap (λ d. record (paused w last across columns ink dots) { down = d }) (down (suc n) e))
              (one w s (c.DownBy (suc n)) [] job (ap accepted on_sheet) refl),
        )
