-- What a run promises, from its outcome.
use Rattle.std.proofs.Common.{◌≡◌, ℕ, ◌≤◌, ◌⊎◌, Bool, true, false, nat_lt, if◌then◌else◌, List, [], ◌++◌, length, Option, None, Some, Result, Ok, Err, IsErr, IsSome, inl, inr, refl}
use Rattle.std.proofs.Common.{sym, ◌∙◌, ap, subst, arith, append-nil}
use Rattle.std.proofs.lemmas.Bool.Decides.{nat_tests}
use Rattle.std.proofs.lemmas.List.{take_all}
use Rattle.std.specs.Io.KnownBytes.{Appends, Consumes, IsAtEnd}
use Rattle.buffered_bytes.specs.Outside.{HasRisen}
use Rattle.driver_answer.specs.Answers.{line_of, status_of}
use Rattle.driver_answer.specs.declared.answer.Answer.{Answer}
use Rattle.driver_answer.specs.declared.answer.Answer.TheVariants as answer
use Rattle.escp2_definitions.specs.Commands.{Entry, ListEnd, commands}
use Rattle.escp2_definitions.specs.Commands.ListEnd.{Cut, Fault, Whole}
use Rattle.escp2_definitions.specs.JobEnds.{Stopped, job_end, list_stop, stopped}
use Rattle.escp2_definitions.specs.Machine.{execute}
use Rattle.escp2_definitions.specs.declared.stops.JobStop.{JobStop}
use Rattle.escp2_definitions.specs.declared.stops.JobStop.TheVariants as job_stop
use Rattle.escp2_reader.specs.Jobs.{JobMayGoOn}
use Rattle.finish_core.proofs.Going.{sink_from, tells_as, tells_both}
use Rattle.finish_core.specs.Outcome.{EndsBetween, FinishOutcome, Finishes, FinishesAll, FinishesPart, FinishesRefused, MeaningOutcome, RunOutcome, TakesNothing, all_told, telling_of}
use Rattle.finish_core.specs.Passing.{job_of, most_job}
use Rattle.finish_core.specs.Promises.{FinishPromises, open_lines}
use Rattle.finish_core.specs.Sides.{ShelfHas, ShelfLacks, Sides, Tells}
use Rattle.finish_definitions.specs.declared.state.PageState.{PageState}
use Rattle.finish_definitions.specs.declared.state.PageState.TheVariants.{Begun, Between, Ejected, Open}
use Rattle.finish_definitions.specs.Finished.{finished, page_state}
use Rattle.finish_words.specs.declared.reading.FinishRequest.{FinishRequest}
use Rattle.finish_words.specs.Meaning.{finish_meaning, stop_named}
use Rattle.job_words.specs.declared.usage.UsageFault.{UsageFault}
use Rattle.page_tally.proofs.Following.{cut-line, lines-of-sheets}
use Rattle.page_tally.specs.declared.lines.Telling.{Telling}
use Rattle.page_tally.specs.Lines.{cut_lines}
use Rattle.page_tally.specs.Sheets.{pages_alone, sheet_lines}
use Rattle.page_tally.specs.Tallies.{no_tally, tally_from}
use Rattle.page_watch.specs.Watching.{told}
use Rattle.printer_definitions.specs.Printer.{Printer}
use Rattle.weave_base.specs.Causes.{Rose}
use Rattle.weave_base.specs.Shelf.{NamedText}

-- ---- the answer's line

-- the sides of a run, if the error sink went on
abbrev pub told_after : Sides → Option (List ℕ) → ℕ → Sides
told_after s z h = record s { err = sink_from s.err.before z s.err.faults_before h }

-- The error sink got the answer's line.
pub record TellsLast (s : Sides) (z : Option (List ℕ)) (h : ℕ) (line : List ℕ) : Type 0 where
  pub early : s.err.faults_before ≤ s.err.faults_now
  pub late : s.err.faults_now ≤ h
  pub tells : Tells (sink_from s.err.now z s.err.faults_now h) line

tells_last : (s : Sides) (z : Option (List ℕ)) (h : ℕ) (line bytes : List ℕ) → TellsLast s z h line → Tells s.err (bytes ++ [])
    → Tells (told_after s z h).err (bytes ++ line)
tells_last s z h line bytes last tells =
    tells_as (told_after s z h).err ((bytes ++ []) ++ line) (bytes ++ line) (ap (λ bs. bs ++ line) (append-nil bytes))
    (tells_both s.err.before s.err.now z s.err.faults_before s.err.faults_now h (bytes ++ []) line last.early last.late tells last.tells)

finishes_last : (telling : Telling) (s : Sides) (z : Option (List ℕ)) (h : ℕ) (line bytes : List ℕ) → TellsLast s z h line
    → Finishes telling [] s bytes → Finishes telling line (told_after s z h) bytes
finishes_last telling s z h line bytes last finishes = record {
  taken = finishes.taken;
  writes = finishes.writes;
  tells = tells_last s z h line (all_told telling (job_of bytes)) last finishes.tells;
}

between_last : (telling : Telling) (s : Sides) (z : Option (List ℕ)) (h : ℕ) (line : List ℕ) → TellsLast s z h line
    → EndsBetween telling [] s → EndsBetween telling line (told_after s z h)
between_last telling s z h line last ends = record {
  bytes = ends.bytes;
  front = ends.front;
  rest = ends.rest;
  taken = ends.taken;
  split = ends.split;
  whole = ends.whole;
  between = ends.between;
  writes = ends.writes;
  tells = tells_last s z h line (told telling ends.front) last ends.tells;
}

part_last : (telling : Telling) (s : Sides) (z : Option (List ℕ)) (h : ℕ) (line : List ℕ) (page : ℕ) → TellsLast s z h line
    → FinishesPart telling [] s page → FinishesPart telling line (told_after s z h) page
part_last telling s z h line page last part = record {
  bytes = part.bytes;
  front = part.front;
  rest = part.rest;
  next = part.next;
  more = part.more;
  taken = part.taken;
  split = part.split;
  grow = part.grow;
  near = part.near;
  page_is = part.page_is;
  middle = part.middle;
  first = part.first;
  part = part.part;
  tells = tells_last s z h line (told telling part.front) last part.tells;
}

pub nothing_last : (s : Sides) (z : Option (List ℕ)) (h : ℕ) (line : List ℕ) → TellsLast s z h line → TakesNothing [] s
    → TakesNothing line (told_after s z h)
nothing_last s z h line last nothing = record {
  input = nothing.input;
  out = nothing.out;
  tells = tells_both s.err.before s.err.now z s.err.faults_before s.err.faults_now h [] line last.early last.late nothing.tells last.tells;
}

finish_last : (telling : Telling) (stop : Option (List ℕ)) (s : Sides) (z : Option (List ℕ)) (h : ℕ) (line : List ℕ) (a : Answer)
    → TellsLast s z h line → FinishOutcome telling stop [] s a → FinishOutcome telling stop line (told_after s z h) a
finish_last telling stop s z h line answer.Done last (inl all) = inl (record {
  bytes = all.bytes;
  finishes = finishes_last telling s z h line all.bytes last all.finishes;
  at_end = all.at_end;
  may = all.may;
  lacks = all.lacks;
})
finish_last telling stop s z h line answer.Done last (inr stops) = inr (record {
  ends = between_last telling s z h line last stops.ends;
  has = stops.has;
  at_once = λ shown. nothing_last s z h line last (stops.at_once shown);
})
finish_last telling stop s z h line (answer.Job offset cause) last refused = record {
  bytes = refused.bytes;
  finishes = finishes_last telling s z h line refused.bytes last refused.finishes;
  refused = refused.refused;
  lacks = refused.lacks;
}
finish_last telling stop s z h line answer.Read last (inl read) = inl (record {
  bytes = read.bytes;
  finishes = finishes_last telling s z h line read.bytes last read.finishes;
  rose = read.rose;
  may = read.may;
  lacks = read.lacks;
})
finish_last telling stop s z h line answer.Read last (inr ends) = inr (between_last telling s z h line last ends.0, ends.1)
finish_last telling stop s z h line (answer.Write page) last outcome =
    (outcome.0, part_last telling s z h line page last outcome.1, outcome.2)
finish_last telling stop s z h line answer.Memory last (inl nothing) = inl (nothing_last s z h line last nothing)
finish_last telling stop s z h line answer.Memory last (inr ends) = inr (between_last telling s z h line last ends.0, ends.1)
finish_last telling stop s z h line (answer.Usage fault) last outcome = absurd outcome
finish_last telling stop s z h line (answer.Profile place cause) last outcome = absurd outcome
finish_last telling stop s z h line (answer.Input page place cause) last outcome = absurd outcome
finish_last telling stop s z h line (answer.OverCap page total dots cap) last outcome = absurd outcome

-- The outcome of a run, with its answer's line.
pub run_last : (words : List (List ℕ)) (s : Sides) (z : Option (List ℕ)) (h : ℕ) (line : List ℕ) (a : Answer) → TellsLast s z h line
    → RunOutcome words [] s a → RunOutcome words line (told_after s z h) a
run_last words s z h line a last outcome = by_meaning (finish_meaning words) outcome
  where
    by_meaning : (r : Result FinishRequest UsageFault) → MeaningOutcome r (stop_named words) [] s a
        → MeaningOutcome r (stop_named words) line (told_after s z h) a
    by_meaning (Err fault) did = (did.0, nothing_last s z h line last did.1)
    by_meaning (Ok request) did = finish_last (telling_of request) (stop_named words) s z h line a last did

-- ---- a job of which all was taken

all_taken : (before now : Option (List ℕ)) (bytes taken : List ℕ) → before ≡ Some bytes → Consumes before now taken → IsAtEnd now → taken ≡ bytes
all_taken None now bytes taken is consumes at_end = absurd (let no : None ≡ Some bytes = is in cc)
all_taken (Some xs) None bytes taken is consumes at_end = absurd consumes
all_taken (Some xs) (Some ys) bytes taken is consumes at_end =
    let same : xs ≡ bytes = cc in
    sym (append-nil taken) ∙ ap (λ bs. taken ++ bs) (sym at_end) ∙ sym consumes ∙ same

test_fails : (b : Bool) (most : ℕ) (other : Option Stopped) → JobMayGoOn (if b then stopped most job_stop.TooLong else other) → b ≡ false
test_fails false most other may = refl
test_fails true most other may = absurd (let no : job_stop.TooLong ≡ job_stop.Cut = may in cc)

end_within : (end : ListEnd) (most len : ℕ) → JobMayGoOn (list_stop end most len) → nat_lt most len ≡ false
end_within (Fault at cause) most len may = absurd (let no : job_stop.Reader cause ≡ job_stop.Cut = may in cc)
end_within (Cut at) most len may = test_fails (nat_lt most len) most (stopped at job_stop.Cut) may
end_within Whole most len may = test_fails (nat_lt most len) most None may

-- a job that may go on is no longer than a job may be
within_job : (bytes : List ℕ) → JobMayGoOn (job_end bytes most_job None) → job_of bytes ≡ bytes
within_job bytes may =
    let short : nat_lt most_job (length bytes) ≡ false = end_within (commands (job_of bytes)).end most_job (length bytes) may in
    take_all most_job bytes (not_longer most_job (length bytes) short)
  where
    not_longer : (most len : ℕ) → nat_lt most len ≡ false → len ≤ most
    not_longer most len short = grind (arith, nat_tests)

-- ---- each status

on_done : (telling : Telling) (stop : Option (List ℕ)) (s : Sides) (bytes : List ℕ) (a : Answer) → s.input.before ≡ Some bytes
    → (ShelfHas stop s.shelf.files → ⊥) → status_of a ≡ 0 → FinishOutcome telling stop (line_of a) s a
    → Appends s.out.before s.out.now (finished bytes)
on_done telling stop s bytes answer.Done known never zero (inl all) =
    let same : job_of all.bytes ≡ bytes = within_job all.bytes all.may
    ∙ all_taken s.input.before s.input.now bytes all.bytes known all.finishes.taken all.at_end in
    let P : List ℕ → Type 0 = λ bs. Appends s.out.before s.out.now (finished bs) in
    subst P same all.finishes.writes
on_done telling stop s bytes answer.Done known never zero (inr stops) = absurd (never stops.has)
on_done telling stop s bytes other known never zero outcome = absurd (omega arith)

on_stop : (telling : Telling) (stop : Option (List ℕ)) (s : Sides) (a : Answer) → (ShelfLacks stop s.shelf.files → ⊥) → status_of a ≡ 0
    → FinishOutcome telling stop (line_of a) s a → TakesNothing [] s
on_stop telling stop s answer.Done never zero (inl all) = absurd (never all.lacks)
on_stop telling stop s answer.Done never zero (inr stops) = stops.at_once (shown_by stop s.shelf.files never)
  where
    shown_by : (stop : Option (List ℕ)) (files : Option (List NamedText)) → (ShelfLacks stop files → ⊥) → IsSome files
    shown_by None files never = absurd (never tt)
    shown_by (Some name) None never = absurd (never tt)
    shown_by (Some name) (Some held) never = refl
on_stop telling stop s other never zero outcome = absurd (omega arith)

on_zero : (telling : Telling) (stop : Option (List ℕ)) (s : Sides) (a : Answer) → status_of a ≡ 0
    → FinishOutcome telling stop (line_of a) s a → FinishesAll telling stop [] s ⊎ EndsBetween telling [] s
on_zero telling stop s answer.Done zero (inl all) = inl all
on_zero telling stop s answer.Done zero (inr stops) = inr stops.ends
on_zero telling stop s other zero outcome = absurd (omega arith)

on_job : (telling : Telling) (stop : Option (List ℕ)) (s : Sides) (a : Answer) → status_of a ≡ 8 → FinishOutcome telling stop (line_of a) s a
    → (offset : ℕ) × (cause : JobStop) × FinishesRefused telling stop (line_of (answer.Job offset cause)) s offset cause
on_job telling stop s (answer.Job offset cause) eight outcome = (offset, cause, outcome)
on_job telling stop s other eight outcome = absurd (omega arith)

on_read : (telling : Telling) (stop : Option (List ℕ)) (s : Sides) (a : Answer) → status_of a ≡ 4 → FinishOutcome telling stop (line_of a) s a
    → (HasRisen s.input × ((bytes : List ℕ) × Finishes telling (line_of answer.Read) s bytes))
    ⊎ (Rose s.shelf.faults_before s.shelf.faults_now × EndsBetween telling (line_of answer.Read) s)
on_read telling stop s answer.Read four (inl read) = inl (read.rose, (read.bytes, read.finishes))
on_read telling stop s answer.Read four (inr ends) = inr (ends.1, ends.0)
on_read telling stop s other four outcome = absurd (omega arith)

on_write : (telling : Telling) (stop : Option (List ℕ)) (s : Sides) (a : Answer) → status_of a ≡ 5 → FinishOutcome telling stop (line_of a) s a
    → HasRisen s.out × ((page : ℕ) × FinishesPart telling (line_of (answer.Write page)) s page)
on_write telling stop s (answer.Write page) five outcome = (outcome.0, (page, outcome.1))
on_write telling stop s other five outcome = absurd (omega arith)

on_memory : (telling : Telling) (stop : Option (List ℕ)) (s : Sides) (a : Answer) → status_of a ≡ 7 → FinishOutcome telling stop (line_of a) s a
    → TakesNothing (line_of answer.Memory) s ⊎ (IsSome stop × EndsBetween telling (line_of answer.Memory) s)
on_memory telling stop s answer.Memory seven (inl nothing) = inl nothing
on_memory telling stop s answer.Memory seven (inr ends) = inr (ends.1, ends.0)
on_memory telling stop s other seven outcome = absurd (omega arith)

-- the statuses of a run
abbrev InRange : ℕ → Type 0
InRange n = (n ≡ 0) ⊎ (n ≡ 1) ⊎ (n ≡ 4) ⊎ (n ≡ 5) ⊎ (n ≡ 7) ⊎ (n ≡ 8)

finish_range : (telling : Telling) (stop : Option (List ℕ)) (s : Sides) (a : Answer) → FinishOutcome telling stop (line_of a) s a
    → InRange (status_of a)
finish_range telling stop s answer.Done outcome = inl refl
finish_range telling stop s answer.Read outcome = inr (inr (inl refl))
finish_range telling stop s (answer.Write page) outcome = inr (inr (inr (inl refl)))
finish_range telling stop s answer.Memory outcome = inr (inr (inr (inr (inl refl))))
finish_range telling stop s (answer.Job offset cause) outcome = inr (inr (inr (inr (inr refl))))
finish_range telling stop s other outcome = absurd outcome

finish_unused : (telling : Telling) (stop : Option (List ℕ)) (s : Sides) (a : Answer) → FinishOutcome telling stop (line_of a) s a
    → status_of a ≡ 1 → ⊥
finish_unused telling stop s (answer.Usage fault) outcome one = outcome
finish_unused telling stop s other outcome one = omega arith

-- ---- the lines of pages

open_are : (p : Printer) (entries : List Entry) (state : PageState) → (execute p entries).refused ≡ None
    → cut_lines pages_alone (tally_from no_tally entries) state ≡ open_lines p entries state
open_are p entries Between none = refl
open_are p entries Begun none = refl
open_are p entries Open none = cut-line p entries none
open_are p entries Ejected none = refl

pages_told : (s : Sides) (p : Printer) (bytes last : List ℕ) → Finishes pages_alone last s bytes
    → (execute p (commands (job_of bytes)).entries).refused ≡ None
    → Tells s.err ((sheet_lines 0 (execute p (commands (job_of bytes)).entries).sheets
    ++ open_lines p (commands (job_of bytes)).entries (page_state (job_of bytes))) ++ last)
pages_told s p bytes last finishes none =
    let entries : List Entry = (commands (job_of bytes)).entries in
    let state : PageState = page_state (job_of bytes) in
    tells_as s.err (all_told pages_alone (job_of bytes) ++ last) _
    (ap (λ lines. (lines ++ cut_lines pages_alone (tally_from no_tally entries) state) ++ last) (lines-of-sheets p entries none)
    ∙ ap (λ line. (sheet_lines 0 (execute p entries).sheets ++ line) ++ last) (open_are p entries state none))
    finishes.tells

-- ---- all

pub promises : (words : List (List ℕ)) (s : Sides) (a : Answer) → RunOutcome words (line_of a) s a → FinishPromises words s (status_of a)
promises words s a outcome =
    let L : Result FinishRequest UsageFault → Type 0 = λ r. MeaningOutcome r (stop_named words) (line_of a) s a in
    record {
      answered = record { a = a; status_is = refl; outcome = outcome };
      finished = λ request bytes means known never zero.
          on_done (telling_of request) (stop_named words) s bytes a known never zero (subst L means outcome);
      stopped = λ request means never zero. on_stop (telling_of request) (stop_named words) s a never zero (subst L means outcome);
      between = λ request means zero. on_zero (telling_of request) (stop_named words) s a zero (subst L means outcome);
      refused = λ request means eight. on_job (telling_of request) (stop_named words) s a eight (subst L means outcome);
      read = λ request means four. on_read (telling_of request) (stop_named words) s a four (subst L means outcome);
      part = λ request means five. on_write (telling_of request) (stop_named words) s a five (subst L means outcome);
      memory = λ request means seven. on_memory (telling_of request) (stop_named words) s a seven (subst L means outcome);
      usage = (λ one. used (finish_meaning words) refl outcome one, λ bad. told_usage (finish_meaning words) outcome bad);
      untaken = λ fault means.
          let did = subst L means outcome in
          let P : Answer → Type 0 = λ b. TakesNothing (line_of b) s in
          subst P did.0 did.1;
      range = range_of (finish_meaning words) outcome;
      lines = λ p bytes last finishes none. pages_told s p bytes last finishes none;
    }
  where
    used : (r : Result FinishRequest UsageFault) → finish_meaning words ≡ r → MeaningOutcome r (stop_named words) (line_of a) s a
        → status_of a ≡ 1 → IsErr (finish_meaning words)
    used (Err fault) means did one = let P : Result FinishRequest UsageFault → Type 0 = λ r. IsErr r in subst P (sym means) refl
    used (Ok request) means did one = absurd (finish_unused (telling_of request) (stop_named words) s a did one)

    told_usage : (r : Result FinishRequest UsageFault) → MeaningOutcome r (stop_named words) (line_of a) s a → IsErr r → status_of a ≡ 1
    told_usage (Err fault) did bad = ap status_of did.0
    told_usage (Ok request) did bad = absurd (let no : false ≡ true = bad in cc)

    range_of : (r : Result FinishRequest UsageFault) → MeaningOutcome r (stop_named words) (line_of a) s a → InRange (status_of a)
    range_of (Err fault) did = inr (inl (ap status_of did.0))
    range_of (Ok request) did = finish_range (telling_of request) (stop_named words) s a did
