-- The built-in profile of a name.
use Rattle.std.proofs.Common.{◌≡◌, ℕ, List, Option, Some, Result, Ok, Err, ◌∙◌, ap, IfOk}
use Rattle.printer_definitions.specs.Printer.{Printer}
use Rattle.printer_profile.specs.Profiles.{built_in}
use Rattle.weave_base.specs.Shelf.{NamedText}
use Rattle.job_profile.specs.declared.stops.ProfileStop.{ProfileStop}
use Rattle.job_profile.specs.declared.stops.ProfileStop.TheVariants as stop
use Rattle.job_profile.specs.Named.{IsJobProfile, Refusal, checked_result, named_result, refused_at, used_result}
use Rattle.job_profile.specs.Stops.{OnRefused}
use Rattle.job_profile.proofs.Shelved.{held_for}

is_job : (told : Option (List NamedText)) (name : List ℕ) (p : Printer) (r : Result Printer Refusal)
    → built_in name ≡ Some p → checked_result p ≡ r → IsJobProfile told name r
is_job told name p r is checked =
    let held = held_for told name in
    record { held = held.0; told_is = held.1; is = ap (λ b. used_result (named_result b held.0)) is ∙ checked }

pub ok_used : (r : Result Printer ProfileStop) (told : Option (List NamedText)) (name : List ℕ) (p : Printer) → built_in name ≡ Some p
    → IfOk r (λ q. checked_result p ≡ Ok q) → IfOk r (λ q. IsJobProfile told name (Ok q))
ok_used (Err e) told name p is h = tt
ok_used (Ok q) told name p is h = is_job told name p (Ok q) is h

pub refused_used : (r : Result Printer ProfileStop) (told : Option (List NamedText)) (name : List ℕ) (p : Printer) → built_in name ≡ Some p
    → OnRefused r (λ refusal. checked_result p ≡ Err refusal) → OnRefused r (λ refusal. IsJobProfile told name (Err refusal))
refused_used (Ok q) told name p is h = tt
refused_used (Err stop.Failed) told name p is h = tt
refused_used (Err stop.Memory) told name p is h = tt
refused_used (Err (stop.Refused line cause)) told name p is h = is_job told name p (Err (refused_at line cause)) is h
