-- The grain of a page: a small change of each amount by its place. It keeps the dots of a flat colour from locking
-- together into patterns that the eye sees. The places follow the additive recurrence of least discrepancy in two
-- dimensions: 49471 and 37344 are 65536 times 0.7549 and 0.5698, the first two powers of 1 / 1.3247, the inverse of
-- the plastic number.
use Rattle.std.specs.Prelude.{ℕ, zero, suc, ◌+◌, ◌-◌, ◌*◌, ◌/◌, ◌%◌, min}
use Rattle.printer_definitions.specs.declared.inks.Ink.{Ink}
use Rattle.printer_definitions.specs.Inks.{ink_place}
use Rattle.printer_definitions.specs.Printer.{Printer, limit_of}
use Rattle.diffusion_definitions.specs.Diffusion.{Plane}
use Rattle.pwg_definitions.specs.Stream.{Page}
use Rattle.separation_definitions.specs.Amounts.{ink_plane}

-- the greatest grain
abbrev pub most_grain : ℕ
most_grain = 32

-- The place of an ink's pixel in the recurrence, 0 to 65535. Columns and rows of the window are counted from 0.
abbrev pub grain_place : Ink → ℕ → ℕ → ℕ
grain_place ink x y = (49471 * x + 37344 * y + 16384 * ink_place ink) % 65536

-- how far the grain may move an amount: neither below 0 nor past the limit
abbrev pub reach : ℕ → ℕ → ℕ → ℕ
reach grain limit a = min grain (min a (limit - a))

-- the amount at a place, of the 2 * far + 1 amounts that are at most `far` from this one
abbrev pub moved : ℕ → ℕ → ℕ → ℕ
moved far place a = a + place * (2 * far + 1) / 65536 - far

-- An amount with grain put on. Grain 0 leaves it as it is.
abbrev pub grained : ℕ → ℕ → ℕ → ℕ → ℕ
grained zero limit place a = a
grained (suc n) limit place a = moved (reach (suc n) limit a) place a

-- The amounts of an ink over the window of a page, with grain put on.
abbrev pub grained_plane : Page → Printer → ℕ → Ink → Plane
grained_plane page p grain ink =
    let plane : Plane = ink_plane page p ink in
    record {
      width = plane.width;
      height = plane.height;
      amount = λ y x. grained grain (limit_of p ink) (grain_place ink x y) (plane.amount y x);
    }
