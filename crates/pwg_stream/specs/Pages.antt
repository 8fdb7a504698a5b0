-- The header of a page that is read from a source (PWG 5102.4, section 4.3).
use Rattle.std.specs.Prelude.{◌≡◌, ℕ, List, length, Option, Ok}
use Rattle.std.specs.Io.KnownBytes.{Consumes}
use Rattle.pwg_definitions.specs.declared.pages.PageForm.{PageForm}
use Rattle.pwg_definitions.specs.declared.pages.Wanted.{Wanted}
use Rattle.pwg_definitions.specs.Limits.{header_length}
use Rattle.pwg_definitions.specs.Header.{check, header_of}

-- The next bytes of the text are the header of a page of this form, and were used.
pub record GivesHeader (want : Wanted) (before now : Option (List ℕ)) (form : PageForm) : Type 0 where
  pub header : List ℕ
  pub long : length header ≡ header_length
  pub accepted : check want (header_of header) ≡ Ok form
  pub used : Consumes before now header
