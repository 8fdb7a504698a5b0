-- The way of a job over its pages, and the profile that a job has for it.
use Rattle.std.specs.Int.{IsGcd}
use Rattle.std.specs.Prelude.{◌≡◌, ℕ, if◌then◌else◌, List, [], ◌∷◌, Option, Result, Ok, Err}
use Rattle.dead_nozzles.specs.Dead.{IsRising, checked}
use Rattle.dead_nozzles.specs.declared.checking.DeadFault.{DeadFault}
use Rattle.job_profile.specs.declared.stops.ProfileCause.{ProfileCause}
use Rattle.job_profile.specs.declared.stops.ProfileCause.TheVariants as cause
use Rattle.job_profile.specs.Named.{IsJobProfile, Refusal}
use Rattle.job_words.specs.declared.reading.Job.{Job}
use Rattle.page_definitions.specs.Dots.{Screening}
use Rattle.page_definitions.specs.Ways.{CanGo}
use Rattle.page_definitions.specs.declared.way.Way.{Way}
use Rattle.page_definitions.specs.declared.way.Way.TheVariants.{Healed, Shingled, Woven}
use Rattle.page_halftoner.specs.Screenings.{screening_of}
use Rattle.printer_definitions.specs.Printer.{Printer}
use Rattle.shingle_plan.specs.Fits.{Shingles}
use Rattle.shingle_plan.specs.Shingles.{half}
use Rattle.weave_base.specs.Shelf.{NamedText}

-- the way of a head that has these dead nozzles
abbrev pub way_around : List ℕ → Way
way_around [] = Woven
way_around (nozzle ∷ dead) = Healed (record { items = nozzle ∷ dead })

-- the way that a job asks for
abbrev pub way_of : Job → Way
way_of job = if job.shingle then Shingled else way_around job.dead.items

-- the screening that a job asks for
abbrev pub job_screening : Job → Screening
job_screening job = screening_of job.kernel job.grain

-- The dead nozzles of a way are in rising order.
abbrev pub IsRisingWay : Way → Type 0
IsRisingWay (Healed dead) = IsRising dead.items
IsRisingWay other = Unit {0}

-- Why the head of a printer cannot go a way: half its nozzles and their pitch have a greatest common divisor other than
-- 1, or the half is none; or its dead nozzles are refused.
abbrev pub RefusesWay : Way → Printer → ProfileCause → Type 0
RefusesWay Woven p why = ⊥
RefusesWay Shingled p why = (Shingles p.nozzles p.pitch → ⊥) × (gcd : ℕ) × IsGcd (half p.nozzles) p.pitch gcd
    × (why ≡ cause.NoShingle (half p.nozzles) gcd)
RefusesWay (Healed dead) p why = (fault : DeadFault) × (checked p.nozzles dead.items ≡ Err fault) × (why ≡ cause.Dead fault)

-- What a profile is to a job that goes this way: refused as it is, or for the way, at line 0.
abbrev pub Fits : Way → Result Printer Refusal → Result Printer Refusal → Type 0
Fits way (Err refusal) fitted = fitted ≡ Err refusal
Fits way (Ok p) (Ok fitted) = (fitted ≡ p) × CanGo way p
Fits way (Ok p) (Err refusal) = (refusal.line ≡ 0) × RefusesWay way p refusal.cause

-- The profile of a job: that of its name, where the head can go the job's way.
pub record IsProfileOf (job : Job) (told : Option (List NamedText)) (name : List ℕ) (fitted : Result Printer Refusal) : Type 0 where
  pub named : Result Printer Refusal
  pub named_is : IsJobProfile told name named
  pub fits : Fits (way_of job) named fitted
