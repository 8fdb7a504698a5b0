-- Places on paper, for resolutions of 360 and 720, and the largest numbers of a page's commands.
use Rattle.std.proofs.Common.{◌≡◌, ℕ, ◌+◌, ◌-◌, ◌*◌, ◌/◌, ◌%◌, ◌<◌, ◌≤◌, ◌⊎◌, inl, inr, sym, ◌∙◌, ap, arith, subst}
use Rattle.std.proofs.Math.Nat.{div-mul-le_self, mul-le-mul, mul-le-mul_right}
use Rattle.std.proofs.lemmas.Nat.{mod-mul-add}
use Rattle.base_definitions.specs.Limits.{most_rows}
use Rattle.printer_definitions.specs.Printer.{Printer, column_step, nozzle_step, row_step, row_units}
use Rattle.page_definitions.specs.Dots.{Halftone}
use Rattle.page_laws.specs.Sized.{Sized}
use Rattle.separation_definitions.specs.CanPrint.{CanPrint}
use Rattle.separation_definitions.specs.Windows.{wanted_by, window_of}
use Rattle.pwg_definitions.specs.declared.pages.PageForm.{PageForm}
use Rattle.pwg_definitions.specs.Header.{IsWanted}
use Rattle.weave_definitions.specs.Weave.{pass_count}

-- a place on paper is a whole number of steps
places : (dpi n : ℕ) → (dpi ≡ 360) ⊎ (dpi ≡ 720) → n * 3600 / dpi ≡ n * (3600 / dpi)
places dpi n (inl e) = grind arith
places dpi n (inr e) = grind arith

-- a step is at least 1
steps : (dpi : ℕ) → (dpi ≡ 360) ⊎ (dpi ≡ 720) → 1 ≤ 3600 / dpi
steps dpi (inl e) = let P : ℕ → Type 0 = λ d. 1 ≤ 3600 / d in subst P (sym e) (omega arith)
steps dpi (inr e) = let P : ℕ → Type 0 = λ d. 1 ≤ 3600 / d in subst P (sym e) (omega arith)

-- a row in units of 5/3600 inch
units : (dpi : ℕ) → (dpi ≡ 360) ⊎ (dpi ≡ 720) → 720 / dpi * 5 ≡ 3600 / dpi
units dpi (inl e) = ap (λ d. 720 / d * 5) e ∙ sym (ap (λ d. 3600 / d) e)
units dpi (inr e) = ap (λ d. 720 / d * 5) e ∙ sym (ap (λ d. 3600 / d) e)

-- a page of the greatest height is 22 inches long
longest : (dpi n : ℕ) → (dpi ≡ 360) ⊎ (dpi ≡ 720) → n ≤ most_rows * dpi / 720 → n * (720 / dpi) ≤ most_rows
longest dpi n (inl e) h = grind arith
longest dpi n (inr e) h = grind arith

-- What follows for a printer.
pub row_place : (p : Printer) (n : ℕ) → CanPrint p → n * 3600 / p.vdpi ≡ n * row_step p
row_place p n c = places p.vdpi n c.down

-- columns and rows are whole steps apart
pub column_place : (p : Printer) (n : ℕ) → CanPrint p → n * 3600 / p.hdpi ≡ n * column_step p
column_place p n c = places p.hdpi n c.across

-- steps and units are at least 1
pub row_step-some : (p : Printer) → CanPrint p → 1 ≤ row_step p
row_step-some p c = steps p.vdpi c.down

pub column_step-some : (p : Printer) → CanPrint p → 1 ≤ column_step p
column_step-some p c = steps p.hdpi c.across

-- units and steps of a row
pub row_units-is : (p : Printer) → CanPrint p → row_units p * 5 ≡ row_step p
row_units-is p c = units p.vdpi c.down

pub row_units-some : (p : Printer) → CanPrint p → 1 ≤ row_units p
row_units-some p c = omega (arith, row_units-is p c, row_step-some p c)

-- from one nozzle to the next are as many rows as the pitch
pub nozzle_step-is : (p : Printer) → CanPrint p → nozzle_step p ≡ p.pitch * row_step p
nozzle_step-is p c = row_place p p.pitch c

pub nozzle_step-some : (p : Printer) → CanPrint p → 1 ≤ nozzle_step p
nozzle_step-some p c = grind (arith, mul-le-mul_right, nozzle_step-is, row_step-some)

-- a page of the greatest height is 22 inches long
pub sheet-longest : (p : Printer) (n : ℕ) → CanPrint p → n ≤ most_rows * p.vdpi / 720 → n * row_units p ≤ most_rows
sheet-longest p n c h = longest p.vdpi n c.down h

-- whole steps are on the grid
pub on_grid : (n step : ℕ) → 1 ≤ step → (n * step) % step ≡ 0
on_grid n step some = grind (arith, mod-mul-add)

-- rows and columns are in their order
pub rises : (a b step : ℕ) → 1 ≤ step → a < b → a * step < b * step
rises a b step some less =
    let more : (a + 1) * step ≤ b * step = mul-le-mul_right step (omega arith) in omega arith

-- ---- the numbers of commands fit their ranges

-- the sheet's length in units
pub length-fits : (p : Printer) (h : Halftone) (tall : ℕ)
    → CanPrint p → Sized p h tall → (1 ≤ tall * row_units p) × (tall * row_units p ≤ 32767)
length-fits p h tall can size = grind (arith, mul-le-mul, row_units-some)

-- the margins of a window are in their order, and on the sheet
pub margins-fit : (p : Printer) (h : Halftone) (above tall : ℕ) → CanPrint p → Sized p h tall
    → ((p.top - above) * row_units p < (p.top + h.height) * row_units p) × ((p.top + h.height) * row_units p ≤ most_rows)
margins-fit p h above tall can size = grind (arith, mul-le-mul_right, rises, row_units-some)

-- a step down from one row to another above the window's end is no longer than the sheet
pub step-fits : (p : Printer) (h : Halftone) (above tall last row : ℕ) → Sized p h tall → above ≤ p.top → row < above + h.height
    → (row - last) * row_units p ≤ most_rows
step-fits p h above tall last row size room low = grind (arith, mul-le-mul_right)

-- the window of a page that the printer takes has a size that can be printed
pub form-sized : (p : Printer) (h : Halftone) (form : PageForm) → CanPrint p → IsWanted (wanted_by p) form
    → h.width ≡ (window_of form p).width → h.height ≡ (window_of form p).height → Sized p h form.height
form-sized p h form can is width height = grind (arith, sheet-longest)

-- the first nozzle is above the window's end in each pass
pub pass-low : (n pitch height t : ℕ) → 1 ≤ n → t < pass_count n pitch height → t * n < (n - 1) * pitch + height
pass-low n pitch height t some less = grind (arith, div-mul-le_self, mul-le-mul_right)
