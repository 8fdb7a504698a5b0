-- The outcome of a run whose command was prepared.
use Rattle.std.proofs.Common.{◌≡◌, ℕ, List, Option, IsOk, Result, Ok, inl, inr, sym, ap, ◌∙◌, arith, subst}
use Rattle.driver_answer.specs.declared.answer.Answer.{Answer}
use Rattle.ink_meter.specs.Accounts.{Account}
use Rattle.job_words.proofs.Heads.{uncapped}
use Rattle.job_words.proofs.Jobs.{most_of_job, within_bounds}
use Rattle.job_words.specs.declared.reading.Job.{Job}
use Rattle.job_words.specs.declared.table.Verb.{Verb}
use Rattle.job_words.specs.declared.table.Verb.TheVariants as verb
use Rattle.job_words.specs.declared.usage.UsageFault.{UsageFault}
use Rattle.job_words.specs.Meaning.{job_meaning, profile_named}
use Rattle.page_definitions.specs.Ways.{CanGo}
use Rattle.printer_definitions.specs.Printer.{Printer}
use Rattle.printer_profile.specs.Validity.{check}
use Rattle.weave_base.specs.Shelf.{NamedText}
use Rattle.driver_core.specs.declared.preparing.Prepared.{Prepared}
use Rattle.driver_core.specs.declared.preparing.Prepared.TheVariants as prepared
use Rattle.driver_core.specs.Caps.{with_cap}
use Rattle.driver_core.specs.Outside.{Outsides}
use Rattle.driver_core.specs.Printing.Setup.{CanBePrinted, setup_of}
use Rattle.driver_core.specs.Runs.Fitting.{way_of}
use Rattle.driver_core.specs.Runs.Outcome.{LineOutcome, Outcome, VerbOutcome}
use Rattle.driver_core.specs.Runs.Prepared.{AsksWithProfile, DoneOutcome, IsPrepared, IsReady, job_in}

can_be_printed : (words : List (List ℕ)) (job : Job) (p : Printer) → job_meaning words ≡ Ok job → IsOk (check p)
    → CanGo (way_of job) p → CanBePrinted (setup_of job p)
can_be_printed words job p means checked way =
    let bounds = within_bounds words job means in
    record { checked = checked; some_workers = bounds.some_workers; most_workers = bounds.most_workers; way = way }

-- what was prepared can be done
pub ready : (words : List (List ℕ)) (told : Option (List NamedText)) (done : Prepared) → IsPrepared words told done → IsReady done
ready words told (prepared.Print job p) is = can_be_printed words job p is.means is.checked is.way
ready words told (prepared.Dots job p) is = (is.checked, omega (arith, most_of_job words job is.means))
ready words told (prepared.List job) is = omega (arith, most_of_job words job is.0)
ready words told (prepared.Profile job p) is = tt
ready words told (prepared.Trial job p) is = (can_be_printed words job p is.means is.checked is.way, within_bounds words job is.means)

-- what a command did with its profile, by the accounts of the meters once their caps were set
with_profile : (words : List (List ℕ)) (o : Outsides) (set : List Account) (command : Verb) (job : Job) (p : Printer) (a : Answer)
    → AsksWithProfile words o.shelf.told command job p → set ≡ with_cap job.cap o.meters.before
    → VerbOutcome command job p o.input o.out (record { before = set; now = o.meters.now }) a → Outcome words o a
with_profile words o set command job p a asks caps does =
    let L : Result Job UsageFault → Type 0 = λ r. LineOutcome r (profile_named words) o a in
    let V : Verb → Type 0 = λ v. VerbOutcome v job p o.input o.out (record { before = set; now = o.meters.now }) a in
    let M : List Account → Type 0 = λ accounts. VerbOutcome job.verb job p o.input o.out (record { before = accounts; now = o.meters.now }) a in
    subst L (sym asks.means)
    (inr (inr (record { p = p; is = asks.profile_is; outcome = subst M caps (subst V (sym asks.command_is) does) })))

-- what doing it came to is the outcome of the run
pub performed : (words : List (List ℕ)) (o : Outsides) (set : List Account) (done : Prepared) (a : Answer)
    → IsPrepared words o.shelf.told done → set ≡ with_cap (job_in done).cap o.meters.before
    → DoneOutcome done o.input o.out (record { before = set; now = o.meters.now }) a → Outcome words o a
performed words o set (prepared.Print job p) a is caps does = with_profile words o set verb.Print job p a is caps does
performed words o set (prepared.Dots job p) a is caps does = with_profile words o set verb.Dots job p a is caps does
performed words o set (prepared.List job) a is caps does =
    let L : Result Job UsageFault → Type 0 = λ r. LineOutcome r (profile_named words) o a in
    let none = ap (λ cap. with_cap cap o.meters.before)
    (uncapped words job is.0 (λ prints. absurd (let other : verb.List ≡ verb.Print = sym is.1 ∙ prints in cc))) in
    subst L (sym is.0) (inl (record { command_is = is.1; uncounted = does.0 ∙ caps ∙ none; lists = does.1 }))
performed words o set (prepared.Profile job p) a is caps does = with_profile words o set verb.Profile job p a is caps does
performed words o set (prepared.Trial job p) a is caps does = with_profile words o set verb.Trial job p a is caps does
