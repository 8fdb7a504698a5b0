-- Where nothing was taken, and nothing was written.
use Rattle.std.proofs.Common.{ℕ, List, [], Option, None, Some, refl, ◌∙◌}
use Rattle.std.specs.Io.KnownBytes.{Appends, Consumes, Keeps}
use Rattle.std.proofs.KnownBytes.{Appends-nil, Consumes-kept, Consumes-nil}
use Rattle.page_definitions.specs.Dots.{Screening}
use Rattle.escp2_definitions.specs.Commands.{commands_from}
use Rattle.escp2_definitions.specs.Machine.{execute_from}
use Rattle.page_definitions.specs.declared.way.Way.{Way}
use Rattle.printer_definitions.specs.Printer.{Printer}
use Rattle.driver_core.specs.Printing.Outcome.{WritesJob}

pub consumes_none : (a b : Option (List ℕ)) → Keeps a b → Consumes a b []
consumes_none a b kept = Consumes-kept a a b [] (Consumes-nil a) kept

pub appends_kept : (a b d : Option (List ℕ)) (bytes : List ℕ) → Appends a b bytes → Keeps b d → Appends a d bytes
appends_kept None b d bytes grown kept = tt
appends_kept (Some x) None d bytes grown kept = absurd grown
appends_kept (Some x) (Some y) None bytes grown kept = absurd kept
appends_kept (Some x) (Some y) (Some z) bytes grown kept = kept ∙ grown

pub appends_none : (a b : Option (List ℕ)) → Keeps a b → Appends a b []
appends_none a b kept = appends_kept a a b [] (Appends-nil a) kept

-- the job of no page was written
pub writes_none : (way : Way) (p : Printer) (k : Screening) (held now : Option (List ℕ)) → Keeps held now → WritesJob way p k [] held now
unfolding commands_from execute_from
writes_none way p k held now kept = record {
  writes = appends_none held now kept;
  prints = record { whole = refl; accepted = refl; sheets = tt };
  passes = tt;
}
