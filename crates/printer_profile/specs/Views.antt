-- What contracts see of a profile: a printer, whose curves have no point above 256.
use Rattle.std.specs.Prelude.{ℕ, Bool, nat_lt, IsTrue, List}
use Rattle.std.specs.List.{list_all}
use Rattle.printer_definitions.specs.Printer.{Printer}
use Rattle.printer_profile.specs.declared.fields.Profile.TheInside.{Inside}

-- the printer that a profile describes
abbrev pub printer_in : Inside → Printer
printer_in p = record {
  hdpi = p.hdpi;
  vdpi = p.vdpi;
  nozzles = p.nozzles;
  pitch = p.pitch;
  inks = p.inks;
  black_start = p.black_start;
  limits = p.limits;
  curves = p.curves;
  left = p.left;
  right = p.right;
  top = p.top;
  bottom = p.bottom;
}

-- the fields of the profile of a printer
abbrev pub fields_of : Printer → Inside
fields_of p = record {
  hdpi = p.hdpi;
  vdpi = p.vdpi;
  nozzles = p.nozzles;
  pitch = p.pitch;
  inks = p.inks;
  black_start = p.black_start;
  limits = p.limits;
  curves = p.curves;
  left = p.left;
  right = p.right;
  top = p.top;
  bottom = p.bottom;
}

-- whether no point of a curve is above 256
abbrev pub has_points : List ℕ → Bool
has_points curve = list_all (λ point. nat_lt point 257) curve

-- No point of a curve is above 256.
abbrev pub HasPoints : Inside → Type 0
HasPoints p = IsTrue (list_all has_points p.curves)
