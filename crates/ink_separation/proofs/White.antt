-- What white pixels give to inks.
use Rattle.std.proofs.Common.{◌≡◌, ℕ, refl, arith}
use Rattle.printer_definitions.specs.Printer.{Printer}
use Rattle.printer_definitions.specs.declared.inks.Ink.{Ink}
use Rattle.printer_definitions.specs.declared.inks.Ink.TheVariants.{Black, Cyan, Magenta, Yellow}
use Rattle.printer_definitions.specs.declared.inks.InkSet.{InkSet}
use Rattle.printer_definitions.specs.declared.inks.InkSet.TheVariants.{K, Cmy, Cmyk}
use Rattle.pwg_definitions.specs.declared.pages.Kind.{Kind}
use Rattle.pwg_definitions.specs.declared.pages.Kind.TheVariants.{Gray8, Black8, Rgb8, Black1, Cmyk8}
use Rattle.separation_definitions.specs.Amounts.{cmyk_ink, colour_ink, colour_of, moved_to_black, pixel_ink}
use Rattle.ink_separation.specs.Columns.{white_pixel}
use Rattle.ink_separation.proofs.Greys.{white_gives}

no_black : (least : ℕ) → moved_to_black least 0 ≡ 0
no_black least = grind arith

white_colour_gives : (inks : InkSet) (least : ℕ) (ink : Ink) → colour_ink inks least (colour_of (white_pixel Rgb8)) ink ≡ 0
white_colour_gives K least ink = refl
white_colour_gives Cmy least Black = refl
white_colour_gives Cmy least Cyan = refl
white_colour_gives Cmy least Magenta = refl
white_colour_gives Cmy least Yellow = refl
white_colour_gives Cmyk least Black = no_black least
white_colour_gives Cmyk least Cyan = omega arith
white_colour_gives Cmyk least Magenta = omega arith
white_colour_gives Cmyk least Yellow = omega arith

no_inks_give : (inks : InkSet) (ink : Ink) → cmyk_ink inks (white_pixel Cmyk8) ink ≡ 0
no_inks_give K ink = refl
no_inks_give Cmy Black = refl
no_inks_give Cmy Cyan = refl
no_inks_give Cmy Magenta = refl
no_inks_give Cmy Yellow = refl
no_inks_give Cmyk Black = refl
no_inks_give Cmyk Cyan = refl
no_inks_give Cmyk Magenta = refl
no_inks_give Cmyk Yellow = refl

pub white_pixel_gives : (p : Printer) (kind : Kind) (ink : Ink) → pixel_ink p kind (white_pixel kind) ink ≡ 0
white_pixel_gives p Gray8 ink = white_gives p.inks ink
white_pixel_gives p Black8 ink = white_gives p.inks ink
white_pixel_gives p Rgb8 ink = white_colour_gives p.inks p.black_start ink
white_pixel_gives p Black1 ink = white_gives p.inks ink
white_pixel_gives p Cmyk8 ink = no_inks_give p.inks ink
