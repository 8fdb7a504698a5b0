-- The outcome of a run, by the meaning of its words.
use Rattle.std.specs.Prelude.{◌≡◌, ℕ, ◌⊎◌, List, None, Result, Ok, Err}
use Rattle.std.specs.Io.KnownBytes.{Appends, Keeps}
use Rattle.driver_answer.specs.declared.answer.Answer.{Answer}
use Rattle.driver_answer.specs.declared.answer.Answer.TheVariants as answer
use Rattle.driver_answer.specs.Answers.{line_of}
use Rattle.driver_answer.specs.Stops.{profile_answer}
use Rattle.driver_core.specs.Listing.Outcome.{ListOutcome}
use Rattle.driver_core.specs.Playing.Outcome.{PlayOutcome}
use Rattle.job_profile.specs.declared.stops.ProfileStop.{ProfileStop}
use Rattle.job_profile.specs.declared.stops.ProfileStop.TheVariants as profile
use Rattle.job_profile.specs.Named.{refused_at}
use Rattle.job_words.specs.declared.reading.Job.{Job}
use Rattle.job_words.specs.declared.table.Verb.{Verb}
use Rattle.job_words.specs.declared.table.Verb.TheVariants as verb
use Rattle.job_words.specs.declared.usage.UsageFault.{UsageFault}
use Rattle.job_words.specs.Meaning.{job_meaning, profile_named}
use Rattle.printer_definitions.specs.Printer.{Printer}
use Rattle.printer_profile.specs.Profiles.{built_in}
use Rattle.weave_base.specs.Parts.{AppendsPart}
use Rattle.driver_core.specs.Caps.{with_cap}
use Rattle.driver_core.specs.Outside.{HasFailed, HasRisen, IsCalm, Meters, Outside, Outsides, Texts, Untouched}
use Rattle.driver_core.specs.Printing.Outcome.{PrintOutcome}
use Rattle.driver_core.specs.Runs.Fitting.{IsProfileOf, job_screening, way_of}
use Rattle.driver_core.specs.Showing.Outcome.{ShowOutcome}
use Rattle.driver_core.specs.Trying.Outcome.{TrialOutcome}

-- the answer of a call: `Done`, or the one that it gives in place of its work
abbrev pub answer_of : Result (Unit {0}) Answer → Answer
answer_of (Ok u) = answer.Done
answer_of (Err a) = a

-- the meters of a job once their caps are set
abbrev pub metered : Job → Meters → Meters
metered job meters = record { before = with_cap job.cap meters.before; now = meters.now }

-- the outcome of a command with its profile, on meters whose caps are set
abbrev pub VerbOutcome : Verb → Job → Printer → Outside → Outside → Meters → Answer → Type 0
VerbOutcome verb.Print job p input out meters a = PrintOutcome (way_of job) p (job_screening job) input out meters a
VerbOutcome verb.Dots job p input out meters a = (meters.now ≡ meters.before) × PlayOutcome p job.most input out a
VerbOutcome verb.List job p input out meters a = ⊥
VerbOutcome verb.Profile job p input out meters a =
    Keeps input.before input.now × (meters.now ≡ meters.before) × ShowOutcome p out a
VerbOutcome verb.Trial job p input out meters a =
    Keeps input.before input.now × (meters.now ≡ meters.before) × TrialOutcome job p out a

-- why there is no profile of a name for a job
abbrev pub ProfileStopped : Job → List ℕ → Texts → ProfileStop → Type 0
ProfileStopped job name shelf (profile.Refused line cause) = IsProfileOf job shelf.told name (Err (refused_at line cause))
ProfileStopped job name shelf profile.Failed = HasFailed shelf × (built_in name ≡ None)
ProfileStopped job name shelf profile.Memory = built_in name ≡ None

-- A job lacks its profile, by the texts of the shelf, and this is the answer.
pub record LacksProfile (job : Job) (name : List ℕ) (shelf : Texts) (a : Answer) : Type 0 where
  pub why : ProfileStop
  pub stopped : ProfileStopped job name shelf why
  pub answered : a ≡ profile_answer why

-- There is no profile, and this is the answer.
pub record NoProfile (name : List ℕ) (job : Job) (o : Outsides) (a : Answer) : Type 0 where
  pub lacks : LacksProfile job name o.shelf a
  pub untouched : Untouched o
  pub uncounted : o.meters.now ≡ (metered job o.meters).before
  pub needed : job.verb ≡ verb.List → ⊥

-- There is this profile, and the command did its work with it.
pub record WithProfile (name : List ℕ) (job : Job) (o : Outsides) (a : Answer) : Type 0 where
  pub p : Printer
  pub is : IsProfileOf job o.shelf.told name (Ok p)
  pub outcome : VerbOutcome job.verb job p o.input o.out (metered job o.meters) a

-- The commands of the job in the input were listed; that takes no profile.
pub record ListsJob (job : Job) (o : Outsides) (a : Answer) : Type 0 where
  pub command_is : job.verb ≡ verb.List
  pub uncounted : o.meters.now ≡ o.meters.before
  pub lists : ListOutcome job.most o.input o.out a

-- The outcome of a command line: refused words, a job that is listed, no profile, or the command's work.
abbrev pub LineOutcome : Result Job UsageFault → List ℕ → Outsides → Answer → Type 0
LineOutcome (Err fault) name o a = (a ≡ answer.Usage fault) × Untouched o × (o.meters.now ≡ o.meters.before)
LineOutcome (Ok job) name o a = ListsJob job o a ⊎ (NoProfile name job o a ⊎ WithProfile name job o a)

abbrev pub Outcome : List (List ℕ) → Outsides → Answer → Type 0
Outcome words o a = LineOutcome (job_meaning words) (profile_named words) o a

-- The error sink got the answer's line: all of it, or a proper prefix, and its count of faults rose.
abbrev pub Told : Outside → Answer → Type 0
Told err a = Appends err.before err.now (line_of a) ⊎ (HasRisen err × AppendsPart err.before err.now (line_of a))

-- where the error sink did not fail, it got exactly this answer's line
abbrev pub Tells : Outside → Answer → Type 0
Tells err a = IsCalm err → Appends err.before err.now (line_of a)
