-- A raster that is not refused for its place.
use Rattle.std.proofs.Common.{◌≡◌, ◌+◌, ◌-◌, ◌*◌, ◌/◌, ◌%◌, ◌==◌, ◌≤◌, false, not, ◌||◌, nat_le, nat_lt, List, [], ◌∷◌, ◌∙◌, sym, ap, arith}
use Rattle.std.specs.Prelude.{None}
use Rattle.std.specs.List.{list_any}
use Rattle.std.proofs.lemmas.Bool.{eqb-true, le-ltb, not-false, or_parts}
use Rattle.printer_definitions.specs.Printer.{Printer, column_step, nozzle_step, row_step}
use Rattle.escp2_definitions.specs.declared.command.RasterHead.{RasterHead}
use Rattle.escp2_definitions.specs.declared.stops.EmulatorFault.TheVariants.{NotGraphics, Density, Rows, OffGrid, OffSheet, Overprint}
use Rattle.escp2_definitions.specs.Commands.{last_column}
use Rattle.escp2_definitions.specs.Machine.{Machine, Refusal, bottom_margin, first_refusal, from_top, is_off_grid, is_other_density}
use Rattle.escp2_definitions.specs.Machine.{no_margins, no_unit, overprints, page_length, raster_dots, refuse, rows_dots}
use Rattle.dot_emulator.specs.declared.firing.Raster.{Raster}
use Rattle.dot_emulator.specs.declared.raster.Steps.{Steps}
use Rattle.dot_emulator.specs.Places.{Placed}
use Rattle.dot_emulator.specs.States.{early_fault}
use Rattle.dot_emulator.specs.Steps.{AreStepsOf}
use Rattle.dot_emulator.proofs.Refusals.{NoneOf, div-mono, ends-at, multiple, none-of}

-- the tests before those of its dots
abbrev early : Printer → Machine → RasterHead → List Refusal
early p m header =
    refuse (not m.graphics) NotGraphics ∷ no_unit m ∷ no_margins m
    ∷ refuse (is_other_density p header) Density
    ∷ refuse (not (header.m == p.nozzles)) Rows
    ∷ refuse (is_off_grid p m) OffGrid
    ∷ []

-- The raster as the code makes it.
pub record IsMade (p : Printer) (m : Machine) (header : RasterHead) (s : Steps) (r : Raster) : Type 0 where
  pub steps : AreStepsOf p s
  pub passed : None ≡ early_fault p m header
  pub fits : r.x + header.n ≤ last_column
  pub header_is : r.header ≡ header
  pub ink_is : r.ink ≡ m.colour
  pub x_is : r.x ≡ m.across / s.column
  pub y_is : r.y ≡ from_top m / s.row
  pub pitch_is : r.pitch ≡ s.pitch
  pub end_is : r.end ≡ (bottom_margin m + s.row - 1) / s.row
  pub on_page : bottom_margin m ≤ page_length m

pub placed : (p : Printer) (m : Machine) (header : RasterHead) (s : Steps) (r : Raster) → IsMade p m header s r → Placed p m header r
placed p m header s r made = record {
  left = λ rows. none.more (refuse (nat_lt last_column (m.across / column_step p + header.n)
      || list_any (λ d. nat_le (bottom_margin m) d.y) (raster_dots m header rows)) OffSheet
      ∷ refuse (overprints m.dots (raster_dots m header rows)) Overprint ∷ [])
      ∙ ap (λ b. first_refusal (refuse (b || list_any (λ d. nat_le (bottom_margin m) d.y) (raster_dots m header rows)) OffSheet
      ∷ refuse (overprints m.dots (raster_dots m header rows)) Overprint ∷ [])) inside;
  fires = λ rows.
      ap (λ x. rows_dots header.m header m.colour x (from_top m) rows) (sym across_is)
      ∙ ap (λ y. rows_dots header.m header m.colour (r.x * column_step p) y rows) (sym down_is)
      ∙ ap (λ ink. rows_dots header.m header ink (r.x * column_step p) (r.y * row_step p) rows) (sym made.ink_is)
      ∙ ap (λ (h : RasterHead). rows_dots h.m h r.ink (r.x * column_step p) (r.y * row_step p) rows) (sym made.header_is);
  stands = record {
    some_column = omega (arith, made.steps.column, s.column_some);
    some_row = omega (arith, made.steps.row, s.row_least);
    across = ap (λ (h : RasterHead). h.h) made.header_is ∙ eqb-true header.h (column_step p) (not-false _ density.0);
    down = ap (λ (h : RasterHead). h.v) made.header_is
        ∙ eqb-true header.v (nozzle_step p) (not-false _ density.1) ∙ sym made.steps.nozzle ∙ s.nozzle_rows
        ∙ ap (λ n. n * s.row) (sym made.pitch_is) ∙ ap (λ n. r.pitch * n) made.steps.row;
    ends = λ n. ends-at (bottom_margin m) (row_step p) n (omega (arith, made.steps.row, s.row_least)) ∙ ap (λ k. nat_le k n) (sym end_is);
  };
  header_is = made.header_is;
  column = x_is;
  on_page = let least : (bottom_margin m + row_step p - 1) / row_step p ≤ (page_length m + row_step p - 1) / row_step
      p = div-mono _ _ (row_step p) (omega (arith, made.steps.row, s.row_least)) (omega (arith, made.on_page)) in
      omega (arith, end_is, least);
}
  where
    none : NoneOf (early p m header)
    none = none-of (early p m header) (sym made.passed)

    density : (not (header.h == column_step p) ≡ false) × (not (header.v == nozzle_step p) ≡ false)
    density = or_parts _ _ none.each.1.1.1.0

    off_grid : (not (m.across % column_step p == 0) ≡ false) × (not (from_top m % row_step p == 0) ≡ false)
    off_grid = or_parts _ _ none.each.1.1.1.1.1.0

    x_is : r.x ≡ m.across / column_step p
    x_is = made.x_is ∙ ap (λ n. m.across / n) made.steps.column

    y_is : r.y ≡ from_top m / row_step p
    y_is = made.y_is ∙ ap (λ n. from_top m / n) made.steps.row

    end_is : r.end ≡ (bottom_margin m + row_step p - 1) / row_step p
    end_is = made.end_is ∙ ap (λ n. (bottom_margin m + n - 1) / n) made.steps.row

    across_is : r.x * column_step p ≡ m.across
    across_is = ap (λ n. n * column_step p) x_is ∙ multiple m.across (column_step p) (not-false _ off_grid.0)

    down_is : r.y * row_step p ≡ from_top m
    down_is = ap (λ n. n * row_step p) y_is ∙ multiple (from_top m) (row_step p) (not-false _ off_grid.1)

    inside : nat_lt last_column (m.across / column_step p + header.n) ≡ false
    inside = le-ltb last_column _ (omega (arith, made.fits, x_is))
