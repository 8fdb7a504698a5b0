-- What pixels of grey give to inks.
use Rattle.std.proofs.Common.{◌≡◌, ◌≢◌, ℕ, arith, refl}
use Rattle.printer_definitions.specs.declared.inks.Ink.{Ink}
use Rattle.printer_definitions.specs.declared.inks.Ink.TheVariants.{Black, Cyan, Magenta, Yellow}
use Rattle.printer_definitions.specs.declared.inks.InkSet.{InkSet}
use Rattle.printer_definitions.specs.declared.inks.InkSet.TheVariants.{K, Cmy, Cmyk}
use Rattle.separation_definitions.specs.Amounts.{grey_ink}

-- white gives nothing
pub white_gives : (inks : InkSet) (ink : Ink) → grey_ink inks ink 0 ≡ 0
white_gives K ink = refl
white_gives Cmy ink = refl
white_gives Cmyk Black = refl
white_gives Cmyk Cyan = refl
white_gives Cmyk Magenta = refl
white_gives Cmyk Yellow = refl

-- an ink to which full darkness gives nothing takes nothing
pub takes_nothing : (inks : InkSet) (ink : Ink) (d : ℕ) → grey_ink inks ink 255 ≡ 0 → grey_ink inks ink d ≡ 0
takes_nothing K ink d none = absurd (omega (arith, none))
takes_nothing Cmy ink d none = absurd (omega (arith, none))
takes_nothing Cmyk Black d none = absurd (omega (arith, none))
takes_nothing Cmyk Cyan d none = refl
takes_nothing Cmyk Magenta d none = refl
takes_nothing Cmyk Yellow d none = refl

-- any other takes all
pub takes_all : (inks : InkSet) (ink : Ink) (d : ℕ) → grey_ink inks ink 255 ≢ 0 → grey_ink inks ink d ≡ d
takes_all K ink d some = refl
takes_all Cmy ink d some = refl
takes_all Cmyk Black d some = refl
takes_all Cmyk Cyan d some = absurd (some refl)
takes_all Cmyk Magenta d some = absurd (some refl)
takes_all Cmyk Yellow d some = absurd (some refl)
