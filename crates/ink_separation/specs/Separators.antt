-- What separators are of.
use Rattle.std.specs.Prelude.{◌≡◌, ℕ, ◌*◌, ◌/◌}
use Rattle.printer_definitions.specs.Printer.{Printer, limit_of, tiny1, tone_of}
use Rattle.printer_definitions.specs.declared.inks.Ink.{Ink}
use Rattle.pwg_definitions.specs.declared.pages.Kind.{Kind}
use Rattle.separation_definitions.specs.declared.window.Window.{Window}
use Rattle.ink_separation.specs.declared.separator.Separator.{Separator}

-- This separates the pixels of a kind inside a window into the inks of a printer.
pub record IsSeparatorOf (p : Printer) (kind : Kind) (w : Window) (s : Separator) : Type 0 where
  pub inks : s.inks ≡ p.inks
  pub black : s.black ≡ p.black_start
  pub limits : s.scales.limits ≡ p.limits
  pub curves : s.scales.curves ≡ p.curves
  pub kind_is : s.kind ≡ kind
  pub window_is : s.window ≡ w

-- the plainest printer that a separator is of
abbrev pub printer_in : Separator → Printer
printer_in s = record tiny1 {
  inks = s.inks;
  black_start = s.black;
  limits = s.scales.limits;
  curves = s.scales.curves;
}

-- The amount of what a pixel gives to an ink.
unfoldable pub amount_in : Separator → Ink → ℕ → ℕ
amount_in s ink given = tone_of (printer_in s) ink given * limit_of (printer_in s) ink / 255
