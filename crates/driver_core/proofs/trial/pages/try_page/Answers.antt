use Rattle.std.proofs.Common.{◌≡◌, ℕ, ◌*◌, ◌++◌, List, Ok, refl, sym, ◌∙◌, ap, subst}
use Rattle.page_definitions.specs.Dots.{Halftone, dots_wanted}
use Rattle.page_definitions.specs.Printing.{GivesSheet}
use Rattle.page_definitions.specs.Ways.{halftone_bytes_by}
use Rattle.page_writer.proofs.Written.{page_of}
use Rattle.printer_definitions.specs.Printer.{Printer, row_units}
use Rattle.driver_core.proofs.Trying.Sums.{sums_by}
use Rattle.driver_core.proofs.trial.pages.try_page.Goals as goal

pub execute_page-requires-clause-page : goal.execute_page-requires-clause-page
execute_page-requires-clause-page g c =
    let p : Printer = c.args.how.now.profile in
    let h : Halftone = c.requires.shown.0 in
    let whole : List ℕ = halftone_bytes_by c.args.how.now.way p h (c.args.page.now.form.height * row_units p) in
    let bytes : c.bytes.result.now ≡ whole =
    c.bytes.ensures ∙ c.in-Ok.ensures.ok h c.requires.shown.1 ∙ ap (λ bs. bs ++ whole) c.clear.ensures in
    let P : List ℕ → Type 0 = λ bs. GivesSheet p bs (dots_wanted p h) in
    record {
      printer = p;
      dots = dots_wanted p h;
      between = c.requires.between;
      gives = subst P (sym bytes) (c.in-Ok.ensures.prints h c.requires.shown.1);
    }

pub returns-in-Ok-execute_page-clause-ok : goal.returns-in-Ok-execute_page-clause-ok
returns-in-Ok-execute_page-clause-ok g c = λ h shows.
    let p : Printer = c.args.how.now.profile in
    let whole : List ℕ = halftone_bytes_by c.args.how.now.way p h (c.args.page.now.form.height * row_units p) in
    let bytes : c.bytes.result.now ≡ whole =
    c.bytes.ensures ∙ c.in-Ok.ensures.ok h shows ∙ ap (λ bs. bs ++ whole) c.clear.ensures in
    let P : List ℕ → Type 0 = λ bs. GivesSheet p bs (dots_wanted p h) in
    let is = page_of c.args.how.now.way p c.args.page.now.planes c.args.page.now.form refl c.checked_can_print.ensures
    c.requires.printed.checked c.requires.printed.way c.requires.wanted c.requires.width c.requires.rows c.requires.inks in
    record {
      sums = sums_by h (Ok c.in-Ok.sum) is shows (c.in-Ok.ensures.sum h shows) c.in-Ok.ensures.short;
      counts = c.in-Ok-execute_page.ensures p (dots_wanted p h) c.requires.between (subst P (sym bytes) (c.in-Ok.ensures.prints h shows));
    }
