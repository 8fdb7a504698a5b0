-- The outcome of showing a profile.
use Rattle.std.specs.Prelude.{◌≡◌}
use Rattle.std.specs.Io.KnownBytes.{Appends, Keeps}
use Rattle.driver_answer.specs.declared.answer.Answer.{Answer}
use Rattle.driver_answer.specs.declared.answer.Answer.TheVariants as answer
use Rattle.printer_definitions.specs.Printer.{Printer}
use Rattle.printer_profile.specs.Text.{profile_text_of}
use Rattle.weave_base.specs.Parts.{AppendsPart}
use Rattle.driver_core.specs.Outside.{HasRisen, Outside}

-- What was written of a profile's text, by the answer: all of it, a proper prefix, or nothing. A failed write is in no
-- page.
abbrev pub ShowOutcome : Printer → Outside → Answer → Type 0
ShowOutcome p out answer.Done = Appends out.before out.now (profile_text_of p)
ShowOutcome p out (answer.Write page) = (page ≡ 0) × HasRisen out × AppendsPart out.before out.now (profile_text_of p)
ShowOutcome p out answer.Memory = Keeps out.before out.now
ShowOutcome p out other = ⊥
