-- The way of a job, and heads that cannot go it.
use Rattle.std.proofs.Common.{◌≡◌, ℕ, ◌==◌, Bool, true, false, if◌then◌else◌, List, [], ◌∷◌, length, Result, Ok, Err, IfErr, OnErr}
use Rattle.std.proofs.Common.{refl, sym, ◌∙◌, ap, arith, subst}
use Rattle.std.specs.Int.{IsGcd}
use Rattle.std.proofs.lemmas.Bool.{eqb-true}
use Rattle.dead_nozzles.specs.Dead.{IsRising}
use Rattle.job_profile.specs.declared.stops.ProfileCause.{ProfileCause}
use Rattle.job_profile.specs.declared.stops.ProfileCause.TheVariants as cause
use Rattle.job_words.specs.declared.reading.Job.{Job}
use Rattle.page_definitions.specs.declared.way.Way.{Way}
use Rattle.page_definitions.specs.declared.way.Way.TheVariants.{Healed, Shingled, Woven}
use Rattle.printer_definitions.specs.Printer.{Printer}
use Rattle.shingle_plan.specs.Fits.{Shingles}
use Rattle.shingle_plan.specs.Shingles.{half}
use Rattle.driver_core.specs.Runs.Fitting.{IsRisingWay, RefusesWay, way_around, way_of}

-- ---- the way of a job

pub way-shingled : (job : Job) → job.shingle ≡ true → way_of job ≡ Shingled
way-shingled job e = ap (λ b. if b then Shingled else way_around job.dead.items) e

pub way-woven : (job : Job) → job.shingle ≡ false → job.dead.items ≡ [] → way_of job ≡ Woven
way-woven job e none = ap (λ b. if b then Shingled else way_around job.dead.items) e ∙ ap way_around none

pub way-healed : (job : Job) → job.shingle ≡ false → (job.dead.items ≡ [] → ⊥) → way_of job ≡ Healed job.dead
way-healed job e some = ap (λ b. if b then Shingled else way_around job.dead.items) e ∙ by_list job.dead.items some
  where
    by_list : (dead : List ℕ) → (dead ≡ [] → ⊥) → way_around dead ≡ Healed (record { items = dead })
    by_list [] some = absurd (some refl)
    by_list (nozzle ∷ dead) some = refl

-- the dead nozzles of a job rise, and so do those of its way
pub rising_way : (job : Job) → IsRising job.dead.items → IsRisingWay (way_of job)
rising_way job rises = by_words job.shingle job.dead.items rises
  where
    by_words : (shingle : Bool) (dead : List ℕ) → IsRising dead → IsRisingWay (if shingle then Shingled else way_around dead)
    by_words true dead rises = tt
    by_words false [] rises = tt
    by_words false (nozzle ∷ dead) rises = rises

-- ---- whether a job names dead nozzles

nil-of : (xs : List ℕ) → length xs ≡ 0 → xs ≡ []
nil-of [] e = refl
nil-of (x ∷ xs) e = absurd (omega (arith, e))

pub none_dead : (items : List ℕ) (b : Bool) → b ≡ (length items == 0) → b ≡ true → items ≡ []
none_dead items b is e = nil-of items (eqb-true (length items) 0 (sym is ∙ e))

pub some_dead : (items : List ℕ) (b : Bool) → b ≡ (length items == 0) → b ≡ false → items ≡ [] → ⊥
some_dead items b is e none =
    let never : true ≡ false = sym (is ∙ ap (λ xs. length xs == 0) none) ∙ e in cc

-- ---- a head that cannot shingle

pub refused_shingles : (q p : Printer) (r : Result (Unit {0}) ProfileCause) → q ≡ p
    → OnErr r (Shingles q.nozzles q.pitch → ⊥)
    → IfErr r (λ why. (gcd : ℕ) × IsGcd (half q.nozzles) q.pitch gcd × (why ≡ cause.NoShingle (half q.nozzles) gcd))
    → IfErr r (RefusesWay Shingled p)
refused_shingles q p r same unfit err =
    let P : Printer → Type 0 = λ x. IfErr r (RefusesWay Shingled x) in
    subst P same (by_result r unfit err)
  where
    by_result : (r : Result (Unit {0}) ProfileCause) → OnErr r (Shingles q.nozzles q.pitch → ⊥)
        → IfErr r (λ why. (gcd : ℕ) × IsGcd (half q.nozzles) q.pitch gcd × (why ≡ cause.NoShingle (half q.nozzles) gcd))
        → IfErr r (RefusesWay Shingled q)
    by_result (Ok u) unfit err = tt
    by_result (Err why) unfit err = (unfit, err.0, err.1, err.2)
