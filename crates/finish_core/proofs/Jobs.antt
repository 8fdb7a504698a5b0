-- A job that is passed on piece by piece.
use Rattle.std.proofs.Common.{◌≡◌, ℕ, ◌+◌, ◌-◌, ◌<◌, ◌≤◌, List, [], ◌++◌, length, take, drop, Option, None, Result, Ok, Err, refl, sym, ◌∙◌, ap}
use Rattle.std.proofs.Common.{subst, arith, append_assoc, append-nil, length-append, length-drop, take-append-drop}
use Rattle.std.proofs.lemmas.List.{take_all}
use Rattle.std.proofs.Math.Seq.{take-append-add}
use Rattle.std.proofs.KnownBytes.{Consumes-nil, Consumes-trans}
use Rattle.std.specs.Io.KnownBytes.{Consumes}
use Rattle.buffered_bytes.specs.Outside.{Outside}
use Rattle.escp2_definitions.specs.JobEnds.{job_end}
use Rattle.escp2_definitions.specs.declared.stops.JobStop.TheVariants as job_stop
use Rattle.escp2_reader.specs.Jobs.{JobMayGoOn}
use Rattle.finish_core.proofs.Going.{goes_nowhere, goes_on, goes_to, halts_behind}
use Rattle.finish_core.proofs.Seen.{stands_by}
use Rattle.finish_core.specs.declared.halts.Halt.{Halt}
use Rattle.finish_core.specs.declared.halts.Halt.TheVariants as halt
use Rattle.finish_core.specs.declared.parts.Parts.{Parts}
use Rattle.finish_core.specs.Passing.{GoesOn, IsHalt, IsPassed, IsPieceEnd, PassesAll, PassesJob, Reads, Stands, job_of, most_job}
use Rattle.finish_core.specs.Sides.{IsLater, Moment}
use Rattle.job_finisher.proofs.FinishedJobs.{may_go_on, refused_too_long}
use Rattle.page_tally.specs.declared.lines.Telling.{Telling}
use Rattle.page_watch.proofs.Pieces.{used_more}
use Rattle.page_watch.specs.Watching.{Watched}
use Rattle.weave_base.specs.Shelf.{NamedText}

-- ---- the events of a piece

-- a job with the bytes of a piece up to a place, and those that are used from there on
pub used_step : (sofar piece : List ℕ) (at used : ℕ) → at ≤ length piece
    → (sofar ++ take at piece) ++ take used (take (length piece - at) (drop at piece)) ≡ sofar ++ take (at + used) piece
used_step sofar piece at used within =
    append_assoc sofar (take at piece) (take used (take (length piece - at) (drop at piece)))
    ∙ ap (λ bs. sofar ++ bs) (sym (used_more piece at used within))

-- and all those from there on
pub piece_rest : (sofar piece : List ℕ) (at : ℕ) → at ≤ length piece
    → sofar ++ piece ≡ (sofar ++ take at piece) ++ take (length piece - at) (drop at piece)
piece_rest sofar piece at within =
    let whole : take (length piece - at) (drop at piece) ≡ drop at piece = take_all (length piece - at) (drop at piece)
    (omega (arith, length-drop at piece)) in
    ap (λ bs. sofar ++ bs) (sym (take-append-drop at piece)) ∙ sym (append_assoc sofar (take at piece) (drop at piece))
    ∙ ap (λ bs. (sofar ++ take at piece) ++ bs) (sym whole)

-- ---- a piece, as far as the job may have it

pub cut_piece : (fed : ℕ) (sofar piece : List ℕ) → length sofar ≡ fed → fed ≤ most_job
    → job_of (sofar ++ piece) ≡ sofar ++ take (most_job - fed) piece
cut_piece fed sofar piece is within =
    let split : most_job ≡ length sofar + (most_job - fed) = omega (arith, is, within) in
    ap (λ n. take n (sofar ++ piece)) split ∙ take-append-add sofar piece (most_job - fed)

pub stands_of : (parts : Parts) (bytes : List ℕ) → Reads parts bytes → Stands parts bytes
stands_of parts bytes reads = stands_by parts bytes reads.watched.tally_is

-- the job goes on past its greatest length
pub too_long : (telling : Telling) (stop : Option (List ℕ)) (files : Option (List NamedText)) (parts : Parts) (a b : Moment) (fed : ℕ)
    (sofar piece first : List ℕ) → length sofar ≡ fed → fed ≤ most_job → first ≡ take (most_job - fed) piece
    → most_job - fed < length piece → IsPieceEnd telling stop files parts a b sofar (sofar ++ piece) (Ok tt)
    → IsPieceEnd telling stop files parts a b sofar (sofar ++ piece) (Err (halt.Job most_job job_stop.TooLong))
too_long telling stop files parts a b fed sofar piece first len within is long ends =
    let whole : job_of (sofar ++ piece) ≡ sofar ++ first = cut_piece fed sofar piece len within ∙ ap (λ bs. sofar ++ bs) (sym is) in
    let P : List ℕ → Type 0 = Watched parts.watch in
    let watched : Watched parts.watch (sofar ++ first) = subst P whole ends.0.watched in (
      (ends.1, stands_of parts (job_of (sofar ++ piece)) ends.0),
      refused_too_long most_job fed sofar piece first watched.part len within is long watched.behind watched.part_is,
    )

-- ---- a job, read by read

-- These bytes of a job were taken, passed on and told.
pub record PassesSoFar (telling : Telling) (parts : Parts) (fed : ℕ) (before now : Option (List ℕ)) (a b : Moment) : Type 0 where
  pub bytes : List ℕ
  pub taken : Consumes before now bytes
  pub reads : Reads parts bytes
  pub fed_is : length bytes ≡ fed
  pub within : fed ≤ most_job
  pub goes : GoesOn telling a b [] bytes

pub passes_none : (telling : Telling) (parts : Parts) (left : Option (List ℕ)) (a : Moment) → Reads parts []
    → PassesSoFar telling parts 0 left left a a
passes_none telling parts left a reads = record {
  bytes = [];
  taken = Consumes-nil left;
  reads = reads;
  fed_is = refl;
  within = omega arith;
  goes = goes_nowhere telling a [];
}

-- a read that took nothing
pub passes_kept : (telling : Telling) (parts : Parts) (fed : ℕ) (before text now : Option (List ℕ)) (a b : Moment)
    → PassesSoFar telling parts fed before text a b → Consumes text now [] → PassesSoFar telling parts fed before now a b
passes_kept telling parts fed before text now a b so_far none =
    let P : List ℕ → Type 0 = Consumes before now in
    record {
      bytes = so_far.bytes;
      taken = subst P (append-nil so_far.bytes) (Consumes-trans before text now so_far.bytes [] so_far.taken none);
      reads = so_far.reads;
      fed_is = so_far.fed_is;
      within = so_far.within;
      goes = so_far.goes;
    }

-- a piece more
pub passes_more : (telling : Telling) (stop : Option (List ℕ)) (files : Option (List NamedText)) (old parts : Parts) (fed next : ℕ)
    (before text now : Option (List ℕ)) (a b d : Moment) (piece : List ℕ) (so_far : PassesSoFar telling old fed before text a b)
    → Consumes text now piece → fed + length piece ≤ most_job → next ≡ fed + length piece → IsLater a b → IsLater b d
    → IsPieceEnd telling stop files parts b d so_far.bytes (so_far.bytes ++ piece) (Ok tt)
    → PassesSoFar telling parts next before now a d
passes_more telling stop files old parts fed next before text now a b d piece so_far taken within next_is early late ends =
    let bytes : List ℕ = so_far.bytes ++ piece in
    let sized : length bytes ≡ next = omega (arith, so_far.fed_is, next_is, length-append so_far.bytes piece) in
    let all : job_of bytes ≡ bytes = take_all most_job bytes (omega (arith, sized, next_is, within)) in
    let P : List ℕ → Type 0 = Reads parts in
    record {
      bytes = bytes;
      taken = Consumes-trans before text now so_far.bytes piece so_far.taken taken;
      reads = subst P all ends.0;
      fed_is = sized;
      within = omega (arith, next_is, within);
      goes = goes_on telling a b d [] so_far.bytes bytes early late so_far.goes
          (goes_to telling b d so_far.bytes (job_of bytes) bytes all ends.1);
    }

-- the job ends with a whole command or inside one, at the end of the source or at a failed read
pub passes_end : (telling : Telling) (stop : Option (List ℕ)) (files : Option (List NamedText)) (parts : Parts) (fed : ℕ) (input : Outside)
    (a b : Moment) (answer : Result (Unit {0}) Halt) (so_far : PassesSoFar telling parts fed input.before input.now a b)
    → (PassesAll telling parts a b [] so_far.bytes → JobMayGoOn (job_end so_far.bytes most_job None)
    → IsPassed telling stop files parts input a b so_far.bytes answer)
    → PassesJob telling stop files parts input a b answer
passes_end telling stop files parts fed input a b answer so_far ends =
    let within : length so_far.bytes ≤ most_job = omega (arith, so_far.fed_is, so_far.within) in
    let all : so_far.bytes ≡ job_of so_far.bytes = sym (take_all most_job so_far.bytes within) in
    let P : List ℕ → Type 0 = Stands parts in
    record {
      bytes = so_far.bytes;
      taken = so_far.taken;
      is = ends (
        goes_to telling a b [] so_far.bytes (job_of so_far.bytes) all so_far.goes,
        subst P all (stands_of parts so_far.bytes so_far.reads),
      ) (may_go_on most_job so_far.bytes so_far.reads.watched.part so_far.reads.watched.behind so_far.reads.watched.part_is within);
    }

-- where the passing of a job halts
pub passed_halt : (telling : Telling) (stop : Option (List ℕ)) (files : Option (List NamedText)) (parts : Parts) (input : Outside)
    (a b : Moment) (bytes : List ℕ) (why : Halt) → IsHalt telling stop files parts a b [] bytes why
    → IsPassed telling stop files parts input a b bytes (Err why)
passed_halt telling stop files parts input a b bytes halt.Asked halts = halts
passed_halt telling stop files parts input a b bytes halt.Shelf halts = halts
passed_halt telling stop files parts input a b bytes halt.Memory halts = halts
passed_halt telling stop files parts input a b bytes (halt.Write page) halts = halts
passed_halt telling stop files parts input a b bytes (halt.Job offset cause) halts = halts
passed_halt telling stop files parts input a b bytes halt.Read halts = absurd halts

-- the job is not passed on, within a piece
pub passes_stop : (telling : Telling) (stop : Option (List ℕ)) (files : Option (List NamedText)) (old parts : Parts) (fed : ℕ) (input : Outside)
    (text : Option (List ℕ)) (a b d : Moment) (piece : List ℕ) (why : Halt) (so_far : PassesSoFar telling old fed input.before text a b)
    → Consumes text input.now piece → IsLater a b → IsLater b d
    → IsPieceEnd telling stop files parts b d so_far.bytes (so_far.bytes ++ piece) (Err why)
    → PassesJob telling stop files parts input a d (Err why)
passes_stop telling stop files old parts fed input text a b d piece why so_far taken early late halts = record {
  bytes = so_far.bytes ++ piece;
  taken = Consumes-trans input.before text input.now so_far.bytes piece so_far.taken taken;
  is = passed_halt telling stop files parts input a d (so_far.bytes ++ piece) why
      (halts_behind telling stop files parts a b d [] so_far.bytes (so_far.bytes ++ piece) why early late so_far.goes halts);
}

-- by what the shelf holds
pub job_as : (telling : Telling) (stop : Option (List ℕ)) (others files : Option (List NamedText)) (parts : Parts) (input : Outside)
    (a b : Moment) (passed : Result (Unit {0}) Halt) → others ≡ files → PassesJob telling stop others parts input a b passed
    → PassesJob telling stop files parts input a b passed
job_as telling stop others files parts input a b passed same job =
    let P : Option (List NamedText) → Type 0 = λ held. PassesJob telling stop held parts input a b passed in
    subst P same job
