-- The promises of a run for the command `print`.
use Rattle.std.proofs.Common.{◌≡◌, ℕ, ◌⊎◌, List, [], Ok, inl, inr, refl, sym, ◌∙◌, arith, subst, append-nil}
use Rattle.std.specs.Io.KnownBytes.{Keeps}
use Rattle.page_definitions.specs.Dots.{Screening}
use Rattle.driver_answer.specs.Answers.{status_of}
use Rattle.driver_answer.specs.declared.answer.Answer.TheVariants as answer
use Rattle.driver_answer.specs.declared.answer.Answer.{Answer}
use Rattle.job_words.specs.declared.reading.Job.{Job}
use Rattle.job_words.specs.declared.table.Verb.TheVariants as verb
use Rattle.job_words.specs.declared.table.Verb.{Verb}
use Rattle.page_definitions.specs.declared.way.Way.{Way}
use Rattle.printer_definitions.specs.Printer.{Printer}
use Rattle.pwg_definitions.specs.Stream.{stream}
use Rattle.driver_core.specs.Outside.{Meters, Outside, Outsides}
use Rattle.driver_core.specs.Printing.Outcome.{CountsOneMore, CountsPages, PrintsSome, PrintsTaken}
use Rattle.driver_core.specs.Printing.Promises.{PrintPromises}
use Rattle.driver_core.specs.Runs.Asking.{AsksFor}
use Rattle.driver_core.specs.Runs.Fitting.{job_screening, way_of}
use Rattle.driver_core.specs.Runs.Outcome.{Outcome, Told, VerbOutcome, metered}
use Rattle.driver_core.proofs.Printing.ByStream.{capped_ends, faulty_ends, valid_ends}
use Rattle.driver_core.proofs.Runs.Asked.{HasProfile, at_work, calm_work, has_profile, told_line}
use Rattle.driver_core.proofs.Runs.Asked.HasProfile.{HasNone, Does}
use Rattle.driver_core.proofs.Runs.Nothing.{consumes_none, writes_none}
use Rattle.driver_core.proofs.Runs.Promised.{says, worked}
use Rattle.driver_core.proofs.Runs.Statuses.{is_done, is_input, is_memory, is_over_cap, is_read, is_write}

-- nothing was read, and nothing was printed
taken_none : (way : Way) (p : Printer) (k : Screening) (input out : Outside) (meters : Meters)
    → Keeps input.before input.now → Keeps out.before out.now → meters.now ≡ meters.before
    → (all : PrintsTaken way p k input out) × CountsPages p k meters all.pages
unfolding stream
taken_none way p k input out meters unread unwritten uncounted = (
  record {
    pages = [];
    taken = record { bytes = []; taken = consumes_none input.before input.now unread; are = refl; end = inr (omega arith) };
    job = writes_none way p k out.before out.now unwritten;
  },
  record { admitted = tt; counts = uncounted },
)

module _ (words : List (List ℕ)) (o : Outsides) (a : Answer) (outcome : Outcome words o a) (job : Job) (p : Printer)
    (asks : AsksFor words o.shelf.told verb.Print job (Ok p)) where
  prints : HasProfile words verb.Print job p o a
  prints = has_profile words verb.Print job p o a (λ e. cc) asks outcome

  -- what was printed where a read failed, and where memory ran out
  all_taken : status_of a ≡ 4 → HasProfile words verb.Print job p o a
      → (all : PrintsTaken (way_of job) p (job_screening job) o.input o.out)
      × CountsPages p (job_screening job) (metered job o.meters) all.pages
  all_taken four (HasNone why none) =
      taken_none (way_of job) p (job_screening job) o.input o.out (metered job o.meters) none.untouched.0 none.untouched.1 none.uncounted
  all_taken four (Does does) =
      let read : VerbOutcome verb.Print job p o.input o.out (metered job o.meters) answer.Read =
      subst (VerbOutcome verb.Print job p o.input o.out (metered job o.meters)) (is_read a four) does in
      (read.1, read.2)

  some_taken : status_of a ≡ 7 → HasProfile words verb.Print job p o a
      → (some : PrintsSome (way_of job) p (job_screening job) o.input o.out)
      × (CountsPages p (job_screening job) (metered job o.meters) some.pages
      ⊎ CountsOneMore p (job_screening job) (metered job o.meters) some.pages some.taken.others)
  some_taken seven (HasNone why none) =
      let all = taken_none (way_of job) p (job_screening job) o.input o.out (metered job o.meters) none.untouched.0 none.untouched.1 none.uncounted in
      let taken = all.0.taken in (
        record {
          pages = all.0.pages;
          taken = record { bytes = taken.bytes; taken = taken.taken; others = []; are = taken.are ∙ sym (append-nil all.0.pages) };
          job = all.0.job;
        },
        inl all.1,
      )
  some_taken seven (Does does) = subst (VerbOutcome verb.Print job p o.input o.out (metered job o.meters)) (is_memory a seven) does

pub print_promises : (words : List (List ℕ)) (o : Outsides) (err : Outside) (a : Answer)
    → Outcome words o a → Told err a → PrintPromises words o err (status_of a)
print_promises words o err a outcome told = record {
  valid = λ job p asks calm is calm_in calm_out. calm_work 0 (prints words o a outcome job p asks) calm
      (λ does. valid_ends (way_of job) p (job_screening job) o.input o.out (metered job o.meters) a does is calm_in calm_out);
  printed = λ job p asks zero. at_work answer.Done tt (is_done a zero) (prints words o a outcome job p asks);
  input = λ job p asks three.
      let is = is_input a three in
      let met : VerbOutcome verb.Print job p o.input o.out (metered job o.meters) (answer.Input is.0 is.1 is.2) =
      at_work (answer.Input is.0 is.1 is.2) tt is.3 (prints words o a outcome job p asks) in
      (is.0, is.1, is.2, met.0, met.1, told_line (answer.Input is.0 is.1 is.2) is.3 told);
  refused = λ job p asks calm is calm_in calm_out. calm_work 3 (prints words o a outcome job p asks) calm
      (λ does. faulty_ends (way_of job) p (job_screening job) o.input o.out (metered job o.meters) a does is calm_in calm_out);
  stopped = λ job p asks four. all_taken words o a outcome job p asks four (prints words o a outcome job p asks);
  full = λ job p asks seven. some_taken words o a outcome job p asks seven (prints words o a outcome job p asks);
  part = λ job p asks five.
      let is = is_write a five in
      let stops : VerbOutcome verb.Print job p o.input o.out (metered job o.meters) (answer.Write is.0) =
      at_work (answer.Write is.0) tt is.1 (prints words o a outcome job p asks) in
      (is.0, stops.1, stops.2, told_line (answer.Write is.0) is.1 told);
  over = λ six.
      let is = is_over_cap a six in
      let b = answer.OverCap is.0 is.1 is.2 is.3 in
      let at = worked words o b tt is.4 outcome in
      elim at.2 [
        | inl lists ↦ absurd lists.lists
        | inr has ↦
            let prints : at.0.verb ≡ verb.Print = says b (inr has) in
            let V : Verb → Type 0 = λ v. VerbOutcome v at.0 has.p o.input o.out (metered at.0 o.meters) b in
            (at.0, has.p, at.1, prints, has.is, is.0, is.1, is.2, is.3, subst V prints has.outcome, told_line b is.4 told)
      ];
  capped = λ job p asks calm is calm_in calm_out. calm_work 6 (prints words o a outcome job p asks) calm
      (λ does. capped_ends (way_of job) p (job_screening job) o.input o.out (metered job o.meters) a does is calm_in calm_out);
}
