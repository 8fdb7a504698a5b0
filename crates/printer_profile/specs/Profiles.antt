-- The table of the built-in profiles.
use Rattle.std.specs.Prelude.{ℕ, List, [], ◌∷◌, codes, find, Option}
use Rattle.std.specs.Option.{option_map}
use Rattle.std.specs.Str.{bytes_eq}
use Rattle.printer_definitions.specs.Printer.{Printer, tiny1}
use Rattle.printer_definitions.specs.declared.inks.InkSet.TheVariants.{Cmyk}

-- A profile with a name.
pub record Named : Type 0 where
  pub name : List ℕ
  pub profile : Printer

abbrev pub tiny : Printer
tiny = record tiny1 {
  nozzles = 3;
  pitch = 2;
  top = 4;
}

abbrev pub p360k : Printer
p360k = record tiny1 {
  nozzles = 31;
  pitch = 4;
  left = 45;
  right = 45;
  top = 120;
  bottom = 60;
}

abbrev pub p360cmyk : Printer
p360cmyk = record tiny1 {
  nozzles = 15;
  pitch = 4;
  inks = Cmyk;
  left = 45;
  right = 45;
  top = 60;
  bottom = 60;
}

abbrev pub p720cmyk : Printer
p720cmyk = record tiny1 {
  hdpi = 720;
  vdpi = 720;
  nozzles = 31;
  pitch = 8;
  inks = Cmyk;
  black_start = 64;
  limits = 255 ∷ 224 ∷ 224 ∷ 224 ∷ [];
  left = 90;
  right = 90;
  top = 240;
  bottom = 120;
}

-- the table of the built-in profiles
abbrev pub built_ins : List Named
built_ins =
    record { name = codes "tiny1"; profile = tiny1 }
    ∷ record { name = codes "tiny"; profile = tiny }
    ∷ record { name = codes "p360k"; profile = p360k }
    ∷ record { name = codes "p360cmyk"; profile = p360cmyk }
    ∷ record { name = codes "p720cmyk"; profile = p720cmyk }
    ∷ []

-- the built-in profile of a name
abbrev pub built_in : List ℕ → Option Printer
built_in name = option_map (λ entry. entry.profile) (find (λ entry. bytes_eq name entry.name) built_ins)
