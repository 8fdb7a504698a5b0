-- The promises of a run whatever its command, from its answer.
use Rattle.std.proofs.Common.{◌≡◌, ℕ, ◌⊎◌, List, [], Option, None, Some, Result, Ok, Err, IsErr, inl, inr, refl, sym}
use Rattle.std.proofs.Common.{◌∙◌, ap, subst, arith, append-nil}
use Rattle.std.specs.Io.KnownBytes.{Appends, Keeps}
use Rattle.driver_answer.specs.Answers.{status_of}
use Rattle.driver_answer.specs.declared.answer.Answer.TheVariants as answer
use Rattle.driver_answer.specs.declared.answer.Answer.{Answer}
use Rattle.job_words.specs.declared.reading.Job.{Job}
use Rattle.job_words.specs.declared.table.Verb.TheVariants as verb
use Rattle.job_words.specs.declared.table.Verb.{Verb}
use Rattle.job_words.specs.declared.usage.UsageFault.{UsageFault}
use Rattle.job_words.specs.Meaning.{job_meaning, profile_named}
use Rattle.job_words.proofs.Heads.{uncapped}
use Rattle.printer_definitions.specs.Printer.{Printer}
use Rattle.driver_core.specs.Caps.{with_cap}
use Rattle.driver_core.specs.Listing.Outcome.{ListOutcome}
use Rattle.driver_core.specs.Outside.{HasRisen, Meters, Outside, Outsides, Untouched}
use Rattle.driver_core.specs.Runs.Outcome.{LineOutcome, ListsJob, NoProfile, Outcome, Told, VerbOutcome, WithProfile, metered}
use Rattle.driver_core.specs.Runs.Promises.{Promises}
use Rattle.driver_core.proofs.Runs.Asked.{Without, asked, shelf_failed, told_line, without}
use Rattle.driver_core.proofs.Runs.Asked.Without.{Refuses, ShelfFails, ShelfFills}
use Rattle.driver_core.proofs.Runs.Statuses.{in_range, is_done, is_input, is_job, is_profile, is_read, is_usage, is_write}

-- ---- what each answer says of the command that gives it

abbrev pub SaysOf : Verb → Outside → Outside → Answer → Type 0
SaysOf v input out (answer.Usage fault) = ⊥
SaysOf v input out (answer.Profile line cause) = ⊥
SaysOf v input out (answer.Input page line cause) = (v ≡ verb.Print) ⊎ (v ≡ verb.Trial)
SaysOf v input out answer.Read = HasRisen input
SaysOf v input out (answer.Write page) = HasRisen out
SaysOf v input out (answer.OverCap page total dots cap) = v ≡ verb.Print
SaysOf v input out (answer.Job offset cause) = (v ≡ verb.List) ⊎ (v ≡ verb.Dots)
SaysOf v input out other = Unit {0}

verb_says : (v : Verb) (job : Job) (p : Printer) (input out : Outside) (meters : Meters) (a : Answer)
    → VerbOutcome v job p input out meters a → SaysOf v input out a
verb_says verb.Print job p input out meters answer.Done does = tt
verb_says verb.Print job p input out meters (answer.Input page line cause) does = inl refl
verb_says verb.Print job p input out meters answer.Read does = does.0
verb_says verb.Print job p input out meters (answer.Write page) does = does.0
verb_says verb.Print job p input out meters (answer.OverCap page total dots cap) does = refl
verb_says verb.Print job p input out meters answer.Memory does = tt
verb_says verb.Print job p input out meters other does = absurd does
verb_says verb.Dots job p input out meters answer.Done does = tt
verb_says verb.Dots job p input out meters answer.Read does = does.1.0
verb_says verb.Dots job p input out meters (answer.Write page) does = does.1.0
verb_says verb.Dots job p input out meters answer.Memory does = tt
verb_says verb.Dots job p input out meters (answer.Job offset cause) does = inr refl
verb_says verb.Dots job p input out meters other does = absurd does.1
verb_says verb.List job p input out meters a does = absurd does
verb_says verb.Profile job p input out meters answer.Done does = tt
verb_says verb.Profile job p input out meters (answer.Write page) does = does.2.1
verb_says verb.Profile job p input out meters answer.Memory does = tt
verb_says verb.Profile job p input out meters other does = absurd does.2
verb_says verb.Trial job p input out meters answer.Done does = tt
verb_says verb.Trial job p input out meters (answer.Input page line cause) does = inr refl
verb_says verb.Trial job p input out meters (answer.Write page) does = does.2.2
verb_says verb.Trial job p input out meters answer.Memory does = tt
verb_says verb.Trial job p input out meters other does = absurd does.2

list_says : (most : ℕ) (input out : Outside) (a : Answer) → ListOutcome most input out a → SaysOf verb.List input out a
list_says most input out answer.Done does = tt
list_says most input out answer.Read does = does.0
list_says most input out (answer.Write page) does = does.1
list_says most input out answer.Memory does = tt
list_says most input out (answer.Job offset cause) does = inl refl
list_says most input out other does = absurd does

abbrev pub Works : List ℕ → Job → Outsides → Answer → Type 0
Works name job o a = ListsJob job o a ⊎ WithProfile name job o a

pub says : {name : List ℕ} {job : Job} {o : Outsides} (a : Answer) → Works name job o a → SaysOf job.verb o.input o.out a
says {o = o} a (inl lists) = subst (λ v. SaysOf v o.input o.out a) (sym lists.command_is) (list_says _ o.input o.out a lists.lists)
says {job = job} {o} a (inr has) = verb_says job.verb job has.p o.input o.out (metered job o.meters) a has.outcome

works_never : {name : List ℕ} {job : Job} {o : Outsides} (a : Answer) → Works name job o a → (status_of a ≡ 1) ⊎ (status_of a ≡ 2) → ⊥
works_never {job = job} {o} a works (inl one) = subst (SaysOf job.verb o.input o.out) (is_usage a one).1 (says a works)
works_never {job = job} {o} a works (inr two) = subst (SaysOf job.verb o.input o.out) (is_profile a two).2 (says a works)

none_status : {name : List ℕ} {job : Job} {o : Outsides} {a : Answer} → Without name job o a
    → (status_of a ≡ 2) ⊎ (status_of a ≡ 4) ⊎ (status_of a ≡ 7)
none_status (Refuses line cause refused is) = inl (ap status_of is)
none_status (ShelfFails failed is) = inr (inl (ap status_of is))
none_status (ShelfFills is) = inr (inr (ap status_of is))

-- ---- the line of a run

split : {name : List ℕ} {job : Job} {o : Outsides} {a : Answer} → LineOutcome (Ok job) name o a → NoProfile name job o a ⊎ Works name job o a
split (inl lists) = inr (inl lists)
split (inr (inl none)) = inl none
split (inr (inr has)) = inr (inr has)

-- a word is refused, there is no profile, or a command does its work
data Came (words : List (List ℕ)) (o : Outsides) (a : Answer) : Type 0 where
  Refused : IsErr (job_meaning words) → status_of a ≡ 1 → Untouched o → o.meters.now ≡ o.meters.before → Came words o a
  Accepted : (job : Job) → job_meaning words ≡ Ok job
      → NoProfile (profile_named words) job o a ⊎ Works (profile_named words) job o a → Came words o a

came : (words : List (List ℕ)) (o : Outsides) (a : Answer) → Outcome words o a → Came words o a
came words o a outcome = by_meaning (job_meaning words) refl outcome
  where
    by_meaning : (r : Result Job UsageFault) → job_meaning words ≡ r → LineOutcome r (profile_named words) o a → Came words o a
    by_meaning (Err fault) means did =
        Refused (subst (λ (r : Result Job UsageFault). IsErr r) (sym means) refl) (ap status_of did.0) did.1 did.2
    by_meaning (Ok job) means did = Accepted job means (split did)

-- answers that only a command at work gives
abbrev pub IsOfCommand : Answer → Type 0
IsOfCommand (answer.Usage fault) = ⊥
IsOfCommand (answer.Profile line cause) = ⊥
IsOfCommand answer.Read = ⊥
IsOfCommand answer.Memory = ⊥
IsOfCommand other = Unit {0}

pub worked : (words : List (List ℕ)) (o : Outsides) {a : Answer} (b : Answer) → IsOfCommand b → a ≡ b → Outcome words o a
    → (job : Job) × (job_meaning words ≡ Ok job) × Works (profile_named words) job o b
worked words o b of_command is outcome = by_case (came words o b (subst (Outcome words o) is outcome))
  where
    never : {name : List ℕ} {job : Job} → Without name job o b → ⊥
    never (Refuses line cause refused e) = subst IsOfCommand e of_command
    never (ShelfFails failed e) = subst IsOfCommand e of_command
    never (ShelfFills e) = subst IsOfCommand e of_command

    by_case : Came words o b → (job : Job) × (job_meaning words ≡ Ok job) × Works (profile_named words) job o b
    by_case (Refused bad one nothing uncounted) = absurd (subst IsOfCommand (is_usage b one).1 of_command)
    by_case (Accepted job means (inl none)) = absurd (never (without none))
    by_case (Accepted job means (inr works)) = (job, means, works)

-- ---- the promises

verb_counts : (v : Verb) (job : Job) (p : Printer) (input out : Outside) (meters : Meters) (a : Answer) → (v ≡ verb.Print → ⊥)
    → VerbOutcome v job p input out meters a → meters.now ≡ meters.before
verb_counts verb.Print job p input out meters a other does = absurd (other refl)
verb_counts verb.Dots job p input out meters a other does = does.0
verb_counts verb.List job p input out meters a other does = absurd does
verb_counts verb.Profile job p input out meters a other does = does.1
verb_counts verb.Trial job p input out meters a other does = does.1

-- nothing was written where there is no line
silent : {err : Outside} → Told err answer.Done → Keeps err.before err.now
silent {err} (inl grown) = whole err.before err.now grown
  where
    whole : (x y : Option (List ℕ)) → Appends x y [] → Keeps x y
    whole None y grown = tt
    whole (Some x) None grown = absurd grown
    whole (Some x) (Some y) grown = grown ∙ append-nil x
silent (inr part) = absurd (let proper = part.1.proper in omega arith)

pub promises : (words : List (List ℕ)) (o : Outsides) (err : Outside) (a : Answer) → Outcome words o a → Told err a
    → Promises words o err (status_of a)
promises words o err a outcome told =
    let L : Result Job UsageFault → Type 0 = λ r. LineOutcome r (profile_named words) o a in
    record {
      answered = record { a = a; status_is = refl; outcome = outcome; told = told };
      unmetered = λ job means unprinted.
          let before = ap (λ cap. with_cap cap o.meters.before) (uncapped words job means unprinted) in
          elim (split (subst L means outcome)) [
            | inl none ↦ none.uncounted ∙ before
            | inr (inl lists) ↦ lists.uncounted
            | inr (inr has) ↦ verb_counts job.verb job has.p o.input o.out (metered job o.meters) a unprinted has.outcome ∙ before
          ];
      untold = λ one. elim (came words o a outcome) [
        | Refused bad is nothing uncounted ↦ uncounted
        | Accepted job means (inl none) ↦ absurd (omega (arith, none_status (without none), one))
        | Accepted job means (inr works) ↦ absurd (works_never a works (inl one))
      ];
      uncounted = λ job means two. elim (split (subst L means outcome)) [
        | inl none ↦ none.uncounted
        | inr works ↦ absurd (works_never a works (inr two))
      ];
      usage = (
        λ one. elim (came words o a outcome) [
          | Refused bad is nothing uncounted ↦ bad
          | Accepted job means (inl none) ↦ absurd (omega (arith, none_status (without none), one))
          | Accepted job means (inr works) ↦ absurd (works_never a works (inl one))
        ],
        λ bad. elim (came words o a outcome) [
          | Refused bad is nothing uncounted ↦ is
          | Accepted job means did ↦ absurd (let never = subst (λ (r : Result Job UsageFault). IsErr r) means bad in cc)
        ],
      );
      profile = λ two. elim (came words o a outcome) [
        | Refused bad is nothing uncounted ↦ absurd (omega (arith, is, two))
        | Accepted job means (inl none) ↦ elim (without none) [
          | Refuses line cause refused is ↦ (job, line, cause, means, refused, told_line (answer.Profile line cause) is told)
          | ShelfFails failed is ↦ absurd (let four = ap status_of is in omega (arith, four, two))
          | ShelfFills is ↦ absurd (let seven = ap status_of is in omega (arith, seven, two))
        ]
        | Accepted job means (inr works) ↦ absurd (works_never a works (inr two))
      ];
      refused_profile = λ command job refusal other asks calm. elim (asked words command job (Err refusal) o a other asks outcome) [
        | inl none ↦ elim (without none) [
          | Refuses line cause refused is ↦ inl (ap status_of is)
          | ShelfFails failed is ↦ absurd (calm failed.0)
          | ShelfFills is ↦ inr (ap status_of is)
        ]
        | inr does ↦ absurd (let never = does.1 in cc)
      ];
      read = λ four. elim (came words o a outcome) [
        | Refused bad is nothing uncounted ↦ absurd (omega (arith, is, four))
        | Accepted job means (inl none) ↦ inr (shelf_failed (without none) four)
        | Accepted job means (inr works) ↦ inl (subst (SaysOf job.verb o.input o.out) (is_read a four) (says a works))
      ];
      write = λ five.
          let is = is_write a five in
          says (answer.Write is.0) (worked words o (answer.Write is.0) tt is.1 outcome).2;
      range = in_range a;
      nothing = λ which. elim (came words o a outcome) [
        | Refused bad is nothing uncounted ↦ nothing
        | Accepted job means (inl none) ↦ none.untouched
        | Accepted job means (inr works) ↦ absurd (works_never a works which)
      ];
      silent = λ zero. silent (subst (Told err) (is_done a zero) told);
      line = λ calm. (a, refl, told_line a refl told calm);
      of_print = λ three.
          let is = is_input a three in
          let at = worked words o (answer.Input is.0 is.1 is.2) tt is.3 outcome in
          (at.0, at.1, says (answer.Input is.0 is.1 is.2) at.2);
      of_jobs = λ eight.
          let is = is_job a eight in
          let at = worked words o (answer.Job is.0 is.1) tt is.2 outcome in
          (at.0, at.1, says (answer.Job is.0 is.1) at.2);
    }
