-- How a run ends, from how its job was passed on.
use Rattle.std.proofs.Common.{◌≡◌, ℕ, ◌≤◌, true, false, List, [], ◌++◌, Option, None, Some, IsSome, Result, Ok, Err, inl, inr, refl, sym, ◌∙◌, ap, subst, arith}
use Rattle.std.proofs.Common.{append-nil}
use Rattle.std.proofs.KnownBytes.{Appends-nil, Appends-trans, Consumes-nil}
use Rattle.std.specs.Io.KnownBytes.{Appends, Consumes}
use Rattle.std.specs.Prelude.{is_some}
use Rattle.buffered_bytes.specs.Outside.{Outside}
use Rattle.driver_answer.specs.declared.answer.Answer.TheVariants as answer
use Rattle.escp2_definitions.specs.Commands.{commands, commands_from}
use Rattle.escp2_reader.proofs.Jobs.{rose_within}
use Rattle.finish_core.proofs.Going.{sink_from, tells_as, tells_both, tells_none}
use Rattle.finish_core.specs.declared.halts.Halt.{Halt}
use Rattle.finish_core.specs.declared.halts.Halt.TheVariants as halt
use Rattle.finish_core.specs.declared.parts.Parts.{Parts}
use Rattle.finish_core.specs.Outcome.{EndsBetween, FinishOutcome, Finishes, FinishesPart, TakesNothing, all_told, answer_of}
use Rattle.finish_core.specs.Passing.{FailsEnd, GoesOn, HaltsBetween, HaltsPart, IsAskHalt, PassesAll, PassesJob, ends_page, job_of, page_in_hand, state_in}
use Rattle.finish_core.specs.Sides.{IsLater, Moment, ShelfHas, ShelfLacks, Sides, Tells, err_from, out_from}
use Rattle.finish_definitions.specs.declared.state.PageState.TheVariants.{Between}
use Rattle.finish_definitions.specs.Finished.{ending_bytes, page_state, whole_commands, whole_from}
use Rattle.page_tally.proofs.Following.{job-state}
use Rattle.page_tally.specs.declared.lines.Telling.{Telling}
use Rattle.page_tally.specs.declared.tally.Tally.{Tally}
use Rattle.page_tally.specs.Lines.{cut_lines}
use Rattle.page_watch.specs.Watching.{tally_behind, tally_of, told}
use Rattle.weave_base.specs.Shelf.{NamedText}

-- ---- from the first byte of a job on

-- no bytes
pub none_whole : whole_commands [] ≡ []
unfolding whole_from
none_whole = refl

pub none_told : (telling : Telling) → told telling [] ≡ []
unfolding commands_from
none_told telling = refl

pub none_between : page_state [] ≡ Between
unfolding commands_from
none_between = refl

-- what the output got
goes_written : (telling : Telling) (a b : Moment) (x : List ℕ) → GoesOn telling a b [] x → Appends a.out b.out (whole_commands x)
goes_written telling a b x goes =
    let P : List ℕ → Type 0 = Appends a.out b.out in
    subst P (sym (goes.passes.grow ∙ ap (λ bs. bs ++ goes.passes.bytes) none_whole)) goes.passes.writes

-- what the error sink got
goes_told : (telling : Telling) (a b : Moment) (x : List ℕ) → GoesOn telling a b [] x → Tells (err_from a b) (told telling x)
goes_told telling a b x goes =
    tells_as (err_from a b) goes.lines (told telling x) (sym (goes.grow ∙ ap (λ bs. bs ++ goes.lines) (none_told telling))) goes.tells

-- ---- the sides of a run

-- from one moment to another, with a count of the shelf's faults before
abbrev pub sides_at : Outside → Option (List NamedText) → ℕ → Moment → Moment → Sides
sides_at input files f a b = record {
  input = input;
  out = out_from a b;
  err = err_from a b;
  shelf = record { files = files; faults_before = f; faults_now = b.shelf_faults };
}

-- ---- if the page needs no end

ends_between : (telling : Telling) (input : Outside) (files : Option (List NamedText)) (f : ℕ) (a b : Moment) (bytes : List ℕ)
    → Consumes input.before input.now bytes → HaltsBetween telling a b [] bytes → EndsBetween telling [] (sides_at input files f a b)
ends_between telling input files f a b bytes taken halts =
    let P : List ℕ → Type 0 = Appends a.out b.out in
    record {
      bytes = bytes;
      front = halts.front;
      rest = halts.rest;
      taken = taken;
      split = halts.split;
      whole = halts.whole;
      between = halts.between;
      writes = subst P halts.whole (goes_written telling a b halts.front halts.goes);
      tells = tells_as (err_from a b) (told telling halts.front) (told telling halts.front ++ []) (sym (append-nil (told telling halts.front)))
          (goes_told telling a b halts.front halts.goes);
    }

finishes_part : (telling : Telling) (input : Outside) (files : Option (List NamedText)) (f : ℕ) (a b : Moment) (bytes : List ℕ) (page : ℕ)
    → Consumes input.before input.now bytes → HaltsPart telling a b [] bytes page → FinishesPart telling [] (sides_at input files f a b) page
finishes_part telling input files f a b bytes page taken halts =
    let middle : Moment = record b { out = halts.middle } in
    record {
      bytes = bytes;
      front = halts.front;
      rest = halts.rest;
      next = halts.next;
      more = halts.more;
      taken = taken;
      split = halts.split;
      grow = halts.grow;
      near = halts.near;
      page_is = halts.page_is;
      middle = halts.middle;
      first = goes_written telling a middle halts.front halts.goes;
      part = halts.part;
      tells = tells_as (err_from a b) (told telling halts.front) (told telling halts.front ++ []) (sym (append-nil (told telling halts.front)))
          (goes_told telling a middle halts.front halts.goes);
    }

-- A shelf that shows what it holds does not both lack and have a text.
shown_apart : (stop : Option (List ℕ)) (files : Option (List NamedText)) → ShelfLacks stop files → ShelfHas stop files → IsSome files → ⊥
shown_apart None files lacks has shown = has
shown_apart (Some name) None lacks has shown = let no : false ≡ true = shown in cc
shown_apart (Some name) (Some held) lacks has shown = let no : false ≡ true = sym (ap is_some lacks) ∙ has in cc

-- The job was passed on, and its page needs no end.
pub ends_without : (telling : Telling) (stop : Option (List ℕ)) (files : Option (List NamedText)) (parts : Parts) (input : Outside) (f : ℕ)
    (a b : Moment) (passed : Result (Unit {0}) Halt) → ends_page passed ≡ false → f ≤ a.shelf_faults → ShelfLacks stop files
    → PassesJob telling stop files parts input a b passed → FinishOutcome telling stop [] (sides_at input files f a b) (answer_of passed)
ends_without telling stop files parts input f a b (Ok u) without early lacks job = absurd (let no : true ≡ false = without in cc)
ends_without telling stop files parts input f a b (Err halt.Asked) without early lacks job = inr (record {
  ends = ends_between telling input files f a b job.bytes job.taken job.is.0;
  has = job.is.1;
  at_once = λ shown. absurd (shown_apart stop files lacks job.is.1 shown);
})
ends_without telling stop files parts input f a b (Err halt.Shelf) without early lacks job =
    inr (
      ends_between telling input files f a b job.bytes job.taken job.is.0,
      rose_within f a.shelf_faults b.shelf_faults b.shelf_faults early job.is.1 (omega arith),
    )
ends_without telling stop files parts input f a b (Err halt.Memory) without early lacks job =
    inr (ends_between telling input files f a b job.bytes job.taken job.is.0, job.is.1)
ends_without telling stop files parts input f a b (Err (halt.Write page)) without early lacks job =
    (job.is.0, finishes_part telling input files f a b job.bytes page job.taken job.is.1, lacks)
ends_without telling stop files parts input f a b (Err (halt.Job offset cause)) without early lacks job =
    absurd (let no : true ≡ false = without in cc)
ends_without telling stop files parts input f a b (Err halt.Read) without early lacks job =
    absurd (let no : true ≡ false = without in cc)

-- The shelf ends the run before the first read.
pub ends_at_first : (telling : Telling) (stop : Option (List ℕ)) (files : Option (List NamedText)) (left : Option (List ℕ)) (g : ℕ) (a : Moment)
    (now : ℕ) (why : Halt) → IsAskHalt stop files a.shelf_faults now why
    → FinishOutcome telling stop [] (sides_at (sink_from left left g g) files a.shelf_faults a (record a { shelf_faults = now }))
    (answer_of (Err why))
ends_at_first telling stop files left g a now why asked = by_why why asked
  where
    between : EndsBetween telling [] (sides_at (sink_from left left g g) files a.shelf_faults a (record a { shelf_faults = now }))
    between = record {
      bytes = [];
      front = [];
      rest = [];
      taken = Consumes-nil left;
      split = refl;
      whole = none_whole;
      between = none_between;
      writes = Appends-nil a.out;
      tells = tells_as (sink_from a.err a.err a.err_faults a.err_faults) [] (told telling [] ++ []) (sym (append-nil (told telling []) ∙ none_told telling))
          (tells_none a.err a.err_faults a.err_faults);
    }

    nothing : TakesNothing [] (sides_at (sink_from left left g g) files a.shelf_faults a (record a { shelf_faults = now }))
    nothing = record {
      input = record { same = refl; faults = refl };
      out = record { same = refl; faults = refl };
      tells = tells_none a.err a.err_faults a.err_faults;
    }

    by_why : (why : Halt) → IsAskHalt stop files a.shelf_faults now why
        → FinishOutcome telling stop [] (sides_at (sink_from left left g g) files a.shelf_faults a (record a { shelf_faults = now }))
        (answer_of (Err why))
    by_why halt.Asked asked = inr (record { ends = between; has = asked; at_once = λ shown. nothing })
    by_why halt.Shelf asked = inr (between, asked)
    by_why halt.Memory asked = inr (between, asked)
    by_why (halt.Write page) asked = absurd asked
    by_why (halt.Job offset cause) asked = absurd asked
    by_why halt.Read asked = absurd asked

-- There is no memory at the beginning.
pub ends_empty : (telling : Telling) (stop : Option (List ℕ)) (files : Option (List NamedText)) (left held told_before : Option (List ℕ)) (f g h n m : ℕ)
    → FinishOutcome telling stop [] (record {
      input = sink_from left left f f;
      out = sink_from held held g g;
      err = sink_from told_before told_before h h;
      shelf = record { files = files; faults_before = n; faults_now = m };
    }) answer.Memory
ends_empty telling stop files left held told_before f g h n m = inl (record {
  input = record { same = refl; faults = refl };
  out = record { same = refl; faults = refl };
  tells = tells_none told_before h h;
})

-- ---- the end of the page

-- the line of a page that is cut, by the tally of the parts
cut_told : (telling : Telling) (t : Tally) (bytes : List ℕ) → t ≡ tally_behind bytes
    → cut_lines telling t t.state ≡ cut_lines telling (tally_behind bytes) (page_state bytes)
cut_told telling t bytes is =
    ap (λ (u : Tally). cut_lines telling u u.state) is ∙ ap (cut_lines telling (tally_behind bytes)) (job-state (commands bytes).entries)

finishes : (telling : Telling) (files : Option (List NamedText)) (parts : Parts) (input : Outside) (f : ℕ) (a b d : Moment) (bytes : List ℕ)
    → Consumes input.before input.now bytes → PassesAll telling parts a b [] bytes → IsLater a b → b.err_faults ≤ d.err_faults
    → Appends b.out d.out (ending_bytes (state_in parts))
    → Tells (err_from b d) (cut_lines telling (tally_of parts.watch) (tally_of parts.watch).state)
    → Finishes telling [] (sides_at input files f a d) bytes
finishes telling files parts input f a b d bytes taken passes early late writes cut =
    let job : List ℕ = job_of bytes in
    let line : List ℕ = cut_lines telling (tally_of parts.watch) (tally_of parts.watch).state in
    let P : List ℕ → Type 0 = Appends a.out d.out in
    record {
      taken = taken;
      writes = subst P (ap (λ state. whole_commands job ++ ending_bytes state) passes.1.state_is)
          (Appends-trans a.out b.out d.out (whole_commands job) (ending_bytes (state_in parts))
          (goes_written telling a b job passes.0) writes);
      tells = tells_as (err_from a d) (told telling job ++ line) (all_told telling job ++ [])
          (ap (λ bs. told telling job ++ bs) (cut_told telling (tally_of parts.watch) job passes.1.tally_is) ∙ sym (append-nil (all_told telling job)))
          (tells_both a.err b.err d.err a.err_faults b.err_faults d.err_faults (told telling job) line early.err late
          (goes_told telling a b job passes.0) cut);
    }

-- The page was ended.
pub page_ended : (telling : Telling) (stop : Option (List ℕ)) (files : Option (List NamedText)) (parts : Parts) (input : Outside) (f : ℕ)
    (a b d : Moment) (passed : Result (Unit {0}) Halt) → ends_page passed ≡ true → ShelfLacks stop files
    → PassesJob telling stop files parts input a b passed → IsLater a b → b.err_faults ≤ d.err_faults
    → Appends b.out d.out (ending_bytes (state_in parts))
    → Tells (err_from b d) (cut_lines telling (tally_of parts.watch) (tally_of parts.watch).state)
    → FinishOutcome telling stop [] (sides_at input files f a d) (answer_of passed)
page_ended telling stop files parts input f a b d (Ok u) ended lacks job early late writes cut = inl (record {
  bytes = job.bytes;
  finishes = finishes telling files parts input f a b d job.bytes job.taken job.is.0 early late writes cut;
  at_end = job.is.1;
  may = job.is.2;
  lacks = lacks;
})
page_ended telling stop files parts input f a b d (Err (halt.Job offset cause)) ended lacks job early late writes cut = record {
  bytes = job.bytes;
  finishes = finishes telling files parts input f a b d job.bytes job.taken job.is.0 early late writes cut;
  refused = job.is.1;
  lacks = lacks;
}
page_ended telling stop files parts input f a b d (Err halt.Read) ended lacks job early late writes cut = inl (record {
  bytes = job.bytes;
  finishes = finishes telling files parts input f a b d job.bytes job.taken job.is.0 early late writes cut;
  rose = job.is.1;
  may = job.is.2;
  lacks = lacks;
})
page_ended telling stop files parts input f a b d (Err halt.Asked) ended lacks job early late writes cut =
    absurd (let no : false ≡ true = ended in cc)
page_ended telling stop files parts input f a b d (Err halt.Shelf) ended lacks job early late writes cut =
    absurd (let no : false ≡ true = ended in cc)
page_ended telling stop files parts input f a b d (Err halt.Memory) ended lacks job early late writes cut =
    absurd (let no : false ≡ true = ended in cc)
page_ended telling stop files parts input f a b d (Err (halt.Write page)) ended lacks job early late writes cut =
    absurd (let no : false ≡ true = ended in cc)

-- all that was passed on of a job whose page is to be ended
record PassedSome (telling : Telling) (parts : Parts) (input : Outside) (a b : Moment) : Type 0 where
  pub bytes : List ℕ
  pub taken : Consumes input.before input.now bytes
  pub passes : PassesAll telling parts a b [] bytes

passed_some : (telling : Telling) (stop : Option (List ℕ)) (files : Option (List NamedText)) (parts : Parts) (input : Outside) (a b : Moment)
    (passed : Result (Unit {0}) Halt) → ends_page passed ≡ true → PassesJob telling stop files parts input a b passed
    → PassedSome telling parts input a b
passed_some telling stop files parts input a b (Ok u) ended job = record { bytes = job.bytes; taken = job.taken; passes = job.is.0 }
passed_some telling stop files parts input a b (Err (halt.Job offset cause)) ended job =
    record { bytes = job.bytes; taken = job.taken; passes = job.is.0 }
passed_some telling stop files parts input a b (Err halt.Read) ended job =
    record { bytes = job.bytes; taken = job.taken; passes = job.is.0 }
passed_some telling stop files parts input a b (Err halt.Asked) ended job = absurd (let no : false ≡ true = ended in cc)
passed_some telling stop files parts input a b (Err halt.Shelf) ended job = absurd (let no : false ≡ true = ended in cc)
passed_some telling stop files parts input a b (Err halt.Memory) ended job = absurd (let no : false ≡ true = ended in cc)
passed_some telling stop files parts input a b (Err (halt.Write page)) ended job = absurd (let no : false ≡ true = ended in cc)

-- The write of the page's end failed.
pub end_failed : (telling : Telling) (stop : Option (List ℕ)) (files : Option (List NamedText)) (parts : Parts) (input : Outside) (f : ℕ)
    (a b d : Moment) (passed : Result (Unit {0}) Halt) (why : Halt) → ends_page passed ≡ true → ShelfLacks stop files
    → PassesJob telling stop files parts input a b passed → IsLater a b → b.err_faults ≤ d.err_faults
    → FailsEnd parts (out_from b d) why → Tells (err_from b d) []
    → FinishOutcome telling stop [] (sides_at input files f a d) (answer_of (Err why))
end_failed telling stop files parts input f a b d passed why ended lacks job early late fails quiet =
    let some = passed_some telling stop files parts input a b passed ended job in
    let front : List ℕ = job_of some.bytes in
    let stands = some.passes.1 in
    let page : ℕ = page_in_hand (tally_of parts.watch) in
    let P : Halt → Type 0 = λ why. FinishOutcome telling stop [] (sides_at input files f a d) (answer_of (Err why)) in
    subst P (sym fails.why_is) (
      rose_within a.out_faults b.out_faults d.out_faults d.out_faults early.out fails.rose (omega arith),
      record {
        bytes = some.bytes;
        front = front;
        rest = [];
        next = ending_bytes (state_in parts);
        more = [];
        taken = some.taken;
        split = sym (append-nil front);
        grow = ap (λ state. whole_commands front ++ ending_bytes state) (sym stands.state_is)
            ∙ sym (append-nil (whole_commands front ++ ending_bytes (state_in parts)));
        near = inr (ap ending_bytes stands.state_is);
        page_is = ap page_in_hand stands.tally_is;
        middle = b.out;
        first = goes_written telling a b front some.passes.0;
        part = fails.part;
        tells = tells_both a.err b.err d.err a.err_faults b.err_faults d.err_faults (told telling front) [] early.err late
            (goes_told telling a b front some.passes.0) quiet;
      },
      lacks,
    )
