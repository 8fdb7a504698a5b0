-- The outcome of a run whose words ask for a command and a profile.
use Rattle.std.proofs.Common.{◌≡◌, ℕ, ◌⊎◌, List, None, Result, Ok, Err, inl, inr, sym, ◌∙◌, ap, subst, arith}
use Rattle.std.specs.Io.KnownBytes.{Appends, Keeps}
use Rattle.driver_answer.specs.declared.answer.Answer.{Answer}
use Rattle.driver_answer.specs.declared.answer.Answer.TheVariants as answer
use Rattle.driver_answer.specs.Answers.{line_of, status_of}
use Rattle.driver_answer.specs.Stops.{profile_answer}
use Rattle.job_profile.specs.declared.stops.ProfileCause.{ProfileCause}
use Rattle.job_profile.specs.declared.stops.ProfileStop.{ProfileStop}
use Rattle.job_profile.specs.declared.stops.ProfileStop.TheVariants as profile
use Rattle.job_profile.specs.Named.{Refusal, refused_at}
use Rattle.job_words.specs.declared.reading.Job.{Job}
use Rattle.job_words.specs.declared.table.Verb.{Verb}
use Rattle.job_words.specs.declared.table.Verb.TheVariants as verb
use Rattle.job_words.specs.declared.usage.UsageFault.{UsageFault}
use Rattle.job_words.specs.Meaning.{job_meaning, profile_named}
use Rattle.printer_definitions.specs.Printer.{Printer}
use Rattle.printer_profile.specs.Profiles.{built_in}
use Rattle.driver_core.specs.Outside.{HasFailed, Outside, Outsides}
use Rattle.driver_core.specs.Runs.Asking.{AsksFor}
use Rattle.driver_core.specs.Runs.Fitting.{IsProfileOf}
use Rattle.driver_core.specs.Runs.Outcome.{LineOutcome, NoProfile, Outcome, ProfileStopped, Tells, Told}
use Rattle.driver_core.specs.Runs.Outcome.{VerbOutcome, metered}

-- why there is no profile
pub data Without (name : List ℕ) (job : Job) (o : Outsides) (a : Answer) : Type 0 where
  Refuses : (line : ℕ) → (cause : ProfileCause) → IsProfileOf job o.shelf.told name (Err (refused_at line cause))
      → a ≡ answer.Profile line cause → Without name job o a
  ShelfFails : HasFailed o.shelf × (built_in name ≡ None) → a ≡ answer.Read → Without name job o a
  ShelfFills : a ≡ answer.Memory → Without name job o a

pub without : {name : List ℕ} {job : Job} {o : Outsides} {a : Answer} → NoProfile name job o a → Without name job o a
without {name} {job} {o} {a} none = by_stop none.lacks.why none.lacks.stopped none.lacks.answered
  where
    by_stop : (why : ProfileStop) → ProfileStopped job name o.shelf why → a ≡ profile_answer why → Without name job o a
    by_stop (profile.Refused line cause) stopped is = Refuses line cause stopped is
    by_stop profile.Failed stopped is = ShelfFails stopped is
    by_stop profile.Memory stopped is = ShelfFills is

-- the outcome of a command line that asks for a command other than the listing of a job
pub asked : (words : List (List ℕ))
    (command : Verb) (job : Job) (r : Result Printer Refusal) (o : Outsides) (a : Answer) → (command ≡ verb.List → ⊥)
    → AsksFor words o.shelf.told command job r → Outcome words o a
    → NoProfile (profile_named words) job o a ⊎ ((p : Printer) × (r ≡ Ok p) × VerbOutcome command job p o.input o.out (metered job o.meters) a)
asked words command job r o a other asks outcome =
    let L : Result Job UsageFault → Type 0 = λ m. LineOutcome m (profile_named words) o a in
    by_case (subst L asks.means outcome)
  where
    by_case : LineOutcome (Ok job) (profile_named words) o a
        → NoProfile (profile_named words) job o a ⊎ ((p : Printer) × (r ≡ Ok p) × VerbOutcome command job p o.input o.out (metered job o.meters) a)
    by_case (inl lists) = absurd (other (sym asks.command_is ∙ lists.command_is))
    by_case (inr (inl none)) = inl none
    by_case (inr (inr has)) =
        let V : Verb → Type 0 = λ v. VerbOutcome v job has.p o.input o.out (metered job o.meters) a in
        inr (has.p, sym (asks.profile_is (Ok has.p) has.is), subst V asks.command_is has.outcome)

-- The same, where the profile is good.
pub data HasProfile (words : List (List ℕ)) (command : Verb) (job : Job) (p : Printer) (o : Outsides) (a : Answer) : Type 0 where
  HasNone : HasFailed o.shelf × (a ≡ answer.Read) ⊎ (a ≡ answer.Memory) → NoProfile (profile_named words) job o a → HasProfile words command job p o a
  Does : VerbOutcome command job p o.input o.out (metered job o.meters) a → HasProfile words command job p o a

pub has_profile : (words : List (List ℕ)) (command : Verb) (job : Job) (p : Printer) (o : Outsides) (a : Answer) → (command ≡ verb.List → ⊥)
    → AsksFor words o.shelf.told command job (Ok p) → Outcome words o a → HasProfile words command job p o a
has_profile words command job p o a other asks outcome = by_case (asked words command job (Ok p) o a other asks outcome)
  where
    by_none : NoProfile (profile_named words) job o a → Without (profile_named words) job o a → HasProfile words command job p o a
    by_none none (Refuses line cause refused is) =
        let never : ◌≡◌ {A = Result Printer Refusal} (Err (refused_at line cause)) (Ok p) = asks.profile_is (Err (refused_at line cause)) refused in
        absurd (cc)
    by_none none (ShelfFails failed is) = HasNone (inl (failed.0, is)) none
    by_none none (ShelfFills is) = HasNone (inr is) none

    by_case : NoProfile (profile_named words) job o a
        ⊎ ((q : Printer) × (◌≡◌ {A = Result Printer Refusal} (Ok p) (Ok q)) × VerbOutcome command job q o.input o.out (metered job o.meters) a)
        → HasProfile words command job p o a
    by_case (inl none) = by_none none (without none)
    by_case (inr does) =
        let V : Printer → Type 0 = λ x. VerbOutcome command job x o.input o.out (metered job o.meters) a in
        let same : ◌≡◌ {A = Result Printer Refusal} (Ok p) (Ok does.0) = does.1 in
        Does (subst V (let is : does.0 ≡ p = cc in is) does.2)

-- ---- a command at work

-- answers other than those to a shelf that failed or memory that ran out
abbrev pub IsOfWork : Answer → Type 0
IsOfWork answer.Read = ⊥
IsOfWork answer.Memory = ⊥
IsOfWork other = Unit {0}

-- on each of them the command did its work
pub at_work : {words : List (List ℕ)} {command : Verb} {job : Job} {p : Printer} {o : Outsides} {a : Answer} (b : Answer)
    → IsOfWork b → a ≡ b → HasProfile words command job p o a → VerbOutcome command job p o.input o.out (metered job o.meters) b
at_work b of_work is (HasNone (inl failed) none) = absurd (subst IsOfWork (sym is ∙ failed.1) of_work)
at_work b of_work is (HasNone (inr full) none) = absurd (subst IsOfWork (sym is ∙ full) of_work)
at_work {command = command} {job} {p} {o} b of_work is (Does does) = subst (VerbOutcome command job p o.input o.out (metered job o.meters)) is does

-- if the shelf did not fail, a command that did not do its work ran out of memory
pub calm_work : {words : List (List ℕ)} {command : Verb} {job : Job} {p : Printer} {o : Outsides} {a : Answer} (s : ℕ)
    → HasProfile words command job p o a → (HasFailed o.shelf → ⊥)
    → (VerbOutcome command job p o.input o.out (metered job o.meters) a → (status_of a ≡ s) ⊎ (status_of a ≡ 7)) → (status_of a ≡ s) ⊎ (status_of a ≡ 7)
calm_work s (HasNone (inl failed) none) calm ends = absurd (calm failed.0)
calm_work s (HasNone (inr full) none) calm ends = inr (ap status_of full)
calm_work s (Does does) calm ends = ends does

-- ---- a command that reads nothing

pub shelf_failed : {name : List ℕ} {job : Job} {o : Outsides} {a : Answer} → Without name job o a → status_of a ≡ 4
    → HasFailed o.shelf × (built_in name ≡ None)
shelf_failed (Refuses line cause refused is) four = absurd (let two = ap status_of is in omega (arith, two, four))
shelf_failed (ShelfFails failed is) four = failed
shelf_failed (ShelfFills is) four = absurd (let seven = ap status_of is in omega (arith, seven, four))

-- the input is left as it was, and the status is 4 only where the shelf failed, which is asked for what is not built in
pub reads_nothing : (words : List (List ℕ)) (command : Verb) (job : Job) (o : Outsides) (a : Answer) → (command ≡ verb.List → ⊥)
    → ((p : Printer) → VerbOutcome command job p o.input o.out (metered job o.meters) a → Keeps o.input.before o.input.now × (status_of a ≡ 4 → ⊥))
    → Outcome words o a → job_meaning words ≡ Ok job → job.verb ≡ command
    → Keeps o.input.before o.input.now × (status_of a ≡ 4 → HasFailed o.shelf × (built_in (profile_named words) ≡ None))
reads_nothing words command job o a other nothing outcome means command_is =
    let L : Result Job UsageFault → Type 0 = λ r. LineOutcome r (profile_named words) o a in
    by_case (subst L means outcome)
  where
    by_case : LineOutcome (Ok job) (profile_named words) o a
        → Keeps o.input.before o.input.now × (status_of a ≡ 4 → HasFailed o.shelf × (built_in (profile_named words) ≡ None))
    by_case (inl lists) = absurd (other (sym command_is ∙ lists.command_is))
    by_case (inr (inl none)) = (none.untouched.0, shelf_failed (without none))
    by_case (inr (inr has)) =
        let V : Verb → Type 0 = λ v. VerbOutcome v job has.p o.input o.out (metered job o.meters) a in
        let does = nothing has.p (subst V command_is has.outcome) in
        (does.0, λ four. absurd (does.1 four))

-- ---- the error line

-- the whole line where the error sink did not fail
pub told_line : {err : Outside} {a : Answer} (b : Answer) → a ≡ b → Told err a → Tells err b
told_line {err} {a} b is told calm = by_case (subst (Told err) is told)
  where
    by_case : Told err b → Appends err.before err.now (line_of b)
    by_case (inl whole) = whole
    by_case (inr part) = absurd (calm part.0)
