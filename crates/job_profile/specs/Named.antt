-- The profile of a name.
use Rattle.std.specs.Prelude.{◌≡◌, ℕ, nat_lt, if◌then◌else◌, List, length, Option, Some, None, IfSome, Result, Ok, Err}
use Rattle.job_profile.specs.declared.stops.ProfileCause.{ProfileCause}
use Rattle.job_profile.specs.declared.stops.ProfileCause.TheVariants as cause
use Rattle.printer_definitions.specs.Printer.{Printer}
use Rattle.printer_profile.specs.Profiles.{built_in}
use Rattle.printer_profile.specs.Text.{profile_text}
use Rattle.printer_profile.specs.Validity.{check}
use Rattle.weave_base.specs.Shelf.{NamedText, text_named}

-- Why a profile is refused: at a line of its text, or at line 0 for the text as a whole.
pub record Refusal : Type 0 where
  pub line : ℕ
  pub cause : ProfileCause

abbrev pub refused_at : ℕ → ProfileCause → Refusal
refused_at line cause = record { line = line; cause = cause }

-- the most bytes of a profile's text
abbrev pub most_text : ℕ
most_text = 65536

-- the profile of a text
abbrev pub text_result : List ℕ → Result Printer Refusal
text_result bytes = elim (profile_text bytes) [ Ok p ↦ Ok p | Err fault ↦ Err (refused_at fault.line (cause.Text fault.cause)) ]

-- the profile of the shelf's text of a name, if there is one
abbrev pub shelf_result : Option (List ℕ) → Result Printer Refusal
shelf_result None = Err (refused_at 0 cause.Absent)
shelf_result (Some bytes) = if nat_lt most_text (length bytes) then Err (refused_at 0 cause.TooLong) else text_result bytes

-- the built-in profile of a name; else the profile of the shelf's text
abbrev pub named_result : Option Printer → Option (List ℕ) → Result Printer Refusal
named_result (Some p) held = Ok p
named_result None held = shelf_result held

-- a profile, if it makes sense
abbrev pub checked_result : Printer → Result Printer Refusal
checked_result p = elim (check p) [ Ok u ↦ Ok p | Err fault ↦ Err (refused_at 0 (cause.Check fault)) ]

abbrev pub used_result : Result Printer Refusal → Result Printer Refusal
used_result (Ok p) = checked_result p
used_result (Err refusal) = Err refusal

-- What the name of a profile means, given the shelf's text of this name, if there is one.
abbrev pub job_profile : List ℕ → Option (List ℕ) → Result Printer Refusal
job_profile name held = used_result (named_result (built_in name) held)

-- The same for the text that the shelf has, where it reports its texts; for some text or none, where it does not.
pub record IsJobProfile (told : Option (List NamedText)) (name : List ℕ) (result : Result Printer Refusal) : Type 0 where
  pub held : Option (List ℕ)
  pub told_is : IfSome told (λ files. held ≡ text_named name files)
  pub is : job_profile name held ≡ result
