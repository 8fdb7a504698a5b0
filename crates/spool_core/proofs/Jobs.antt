-- Jobs printed one after another.
use Rattle.std.proofs.Common.{◌≡◌, ◌≢◌, ℕ, ◌+◌, ◌⊎◌, inl, inr, ⊎_elim, List, [], ◌∷◌, ◌++◌, length, sym, refl, ◌∙◌, ap, subst, arith, All, Bool, true, false, cond, count_by, Some}
use Rattle.std.specs.Prelude.{◌==◌, ◌||◌}
use Rattle.std.proofs.lemmas.List.Elements.{All-cons, All-head, All-nil, All-tail}
use Rattle.std.proofs.lemmas.List.Sums.{sum_by-cons}
use Rattle.page_definitions.specs.Dots.{Screening}
use Rattle.driver_answer.specs.Answers.{status_of}
use Rattle.driver_answer.specs.declared.answer.Answer.{Answer}
use Rattle.driver_answer.specs.declared.answer.Answer.TheVariants as answer
use Rattle.driver_core.specs.Outside.{IsCalm, Outside}
use Rattle.driver_core.specs.Printing.Outcome.{PrintedOutcome}
use Rattle.page_definitions.specs.declared.way.Way.{Way}
use Rattle.page_definitions.specs.declared.way.Way.TheVariants.{Woven}
use Rattle.printer_definitions.specs.Printer.{Printer}
use Rattle.spool_queue.specs.Jobs.{Stream}
use Rattle.spool_queue.specs.declared.job.SpoolJob.{SpoolJob}
use Rattle.spool_core.specs.Outcome.{HasPlainStatus, is_refused}
use Rattle.spool_core.specs.Printed.{AreDone, Between, PrintsJob, PrintsJobs, PrintsStream, meters_from, out_from}
use Rattle.spool_core.specs.declared.report.Ran.{Ran}

pub one_job_more : (p : Printer) (k : Screening) (jobs : List SpoolJob) (job : SpoolJob) (done : List Ran) (ran : Ran) (a m b : Between)
    → PrintsJobs p k jobs done a m → PrintsJob p k job ran m b → PrintsJobs p k (jobs ++ job ∷ []) (done ++ ran ∷ []) a b
one_job_more p k [] job [] ran a m b are one = (b, subst (λ x. PrintsJob p k job ran x b) (sym are) one, refl)
one_job_more p k [] job (other ∷ done) ran a m b are one = absurd are
one_job_more p k (x ∷ jobs) job [] ran a m b are one = absurd are
one_job_more p k (x ∷ jobs) job (other ∷ done) ran a m b are one = (are.0, are.1, one_job_more p k jobs job done ran are.0 m b are.2 one)

pub as_many : (p : Printer) (k : Screening) (jobs : List SpoolJob) (done : List Ran) (a b : Between) → PrintsJobs p k jobs done a b → length done ≡ length jobs
as_many p k [] [] a b are = refl
as_many p k (job ∷ jobs) (ran ∷ done) a b are = let more = as_many p k jobs done are.0 b are.2 in omega arith
as_many p k jobs done a b are = absurd are

-- a source that does not fail is no reason to stop
plain_answer : (p : Printer) (k : Screening) (bytes : Stream) (pages : ℕ) (a : Answer) (x y : Between) → PrintsStream p k bytes pages a x y
    → status_of a ≢ 5 → (status_of a ≡ 0) ⊎ ((status_of a ≡ 3) ⊎ ((status_of a ≡ 6) ⊎ (status_of a ≡ 7)))
plain_answer p k bytes pages answer.Done x y prints fine = inl refl
plain_answer p k bytes pages (answer.Input page line cause) x y prints fine = inr (inl refl)
plain_answer p k bytes pages answer.Read x y prints fine = absurd (prints.calm prints.printed.0.0)
plain_answer p k bytes pages (answer.Write page) x y prints fine = absurd (fine refl)
plain_answer p k bytes pages (answer.OverCap page total dots cap) x y prints fine = inr (inr (inl refl))
plain_answer p k bytes pages answer.Memory x y prints fine = inr (inr (inr refl))
plain_answer p k bytes pages other x y prints fine = absurd prints.printed.0

plain_one : (p : Printer) (k : Screening) (job : SpoolJob) (ran : Ran) (a b : Between) → PrintsJob p k job ran a b → ran.status ≢ 5 → HasPlainStatus ran
plain_one p k job ran a b prints fine =
    let P : ℕ → Type 0 = λ s. (s ≡ 0) ⊎ ((s ≡ 3) ⊎ ((s ≡ 6) ⊎ (s ≡ 7))) in
    record {
      is = subst P (sym prints.status_is)
          (plain_answer p k job.stream ran.pages prints.answer a b prints.prints (λ five. fine (prints.status_is ∙ five)));
    }

pub plain_all : (p : Printer) (k : Screening) (jobs : List SpoolJob) (done : List Ran) (a b : Between) → PrintsJobs p k jobs done a b
    → All (λ ran. ran.status ≢ 5) done → All HasPlainStatus done
plain_all p k [] [] a b are fine = All-nil HasPlainStatus
plain_all p k (job ∷ jobs) (ran ∷ done) a b are fine =
    let P : Ran → Type 0 = λ r. r.status ≢ 5 in
    All-cons HasPlainStatus ran done (plain_one p k job ran a are.0 are.1 (All-head P ran done fine))
    (plain_all p k jobs done are.0 b are.2 (All-tail P ran done fine))
plain_all p k jobs done a b are fine = absurd are

-- the status of a job of which none of two counts tells
zero_one : (ran : Ran) → HasPlainStatus ran → is_refused ran ≡ false → ran.status ≢ 7 → ran.status ≡ 0
zero_one ran plain refused full =
    ⊎_elim (λ e. e)
    (⊎_elim (λ e. absurd (no (ap (λ s. (s == 3) || (s == 6)) e) refused))
    (⊎_elim (λ e. absurd (no (ap (λ s. (s == 3) || (s == 6)) e) refused)) (λ e. absurd (full e)))) plain.is
  where
    no : {b : Bool} → b ≡ true → b ≡ false → ⊥
    no t f = absurd (let e : true ≡ false = sym t ∙ f in cc)

none_of : (b : Bool) (n : ℕ) → cond b 1 0 + n ≡ 0 → (b ≡ false) × (n ≡ 0)
none_of true n e = absurd (omega arith)
none_of false n e = (refl, omega arith)

-- where neither a refused job nor one without memory is there, all were printed
pub all_zero : (done : List Ran) → All HasPlainStatus done → count_by is_refused done ≡ 0
    → All (λ (ran : Ran). ran.status ≢ 7) done → All (λ ran. ran.status ≡ 0) done
all_zero [] plain refused full = All-nil (λ ran. ran.status ≡ 0)
all_zero (ran ∷ done) plain refused full =
    let Q : Ran → Type 0 = λ r. r.status ≢ 7 in
    let one = none_of (is_refused ran) (count_by is_refused done) (sym (sum_by-cons (λ (r : Ran). cond (is_refused r) 1 0) ran done) ∙ refused) in
    All-cons (λ r. r.status ≡ 0) ran done (zero_one ran (All-head HasPlainStatus ran done plain) one.0 (All-head Q ran done full))
    (all_zero done (All-tail HasPlainStatus ran done plain) one.1 (All-tail Q ran done full))

-- a stream was printed in the way of the spool
pub stream_printed : {p : Printer} {k : Screening} {pages : ℕ} {a : Answer} {bytes : Stream} {x y : Between} (way : Way) (input : Outside)
    → way ≡ Woven → input.before ≡ Some bytes → IsCalm input
    → PrintedOutcome way p k input (out_from x y) (meters_from x y) pages a → PrintsStream p k bytes pages a x y
stream_printed {p} {k} {pages} {a} {bytes} {x} {y} way input is stream_is calm printed = record {
  input = input;
  stream_is = stream_is;
  calm = calm;
  printed = subst (λ (w : Way). PrintedOutcome w p k input (out_from x y) (meters_from x y) pages a) is printed;
}

-- one more job was printed
pub more_done : {p : Printer} {k : Screening} {x m y : Between} (jobs next : List SpoolJob) (job : SpoolJob) (done now : List Ran) (pages status : ℕ)
    (a : Answer) → next ≡ jobs ++ job ∷ []
    → now ≡ done ++ record { sender = job.sender; number = job.number; pages = pages; status = status } ∷ []
    → AreDone p k jobs done x m → PrintsStream p k job.stream pages a m y → status ≡ status_of a → AreDone p k next now x y
more_done {p} {k} {x} {m} {y} jobs next job done now pages status a jobs_are done_are so_far prints is =
    let ran : Ran = record { sender = job.sender; number = job.number; pages = pages; status = status } in
    let one : PrintsJob p k job ran m y = record { answer = a; prints = prints; status_is = is; sender_is = refl; number_is = refl } in
    let all : PrintsJobs p k (jobs ++ job ∷ []) (done ++ ran ∷ []) x y = one_job_more p k jobs job done ran x m y so_far.are one in
    record {
      are = subst (λ (js : List SpoolJob). PrintsJobs p k js now x y) (sym jobs_are)
          (subst (λ (ds : List Ran). PrintsJobs p k (jobs ++ job ∷ []) ds x y) (sym done_are) all);
    }

-- an answer other than a failed write
pub not_write : (a : Answer) → ((page : ℕ) → a ≡ answer.Write page → ⊥) → status_of a ≢ 5
not_write (answer.Write page) other five = other page refl
not_write a other five = absurd (omega arith)
