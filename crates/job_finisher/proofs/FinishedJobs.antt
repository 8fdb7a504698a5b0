-- A job that is passed on piece by piece, and how it ends.
use Rattle.std.proofs.Common.{◌≡◌, ℕ, ◌+◌, ◌-◌, ◌<◌, ◌≤◌, true, false, List, [], ◌∷◌, ◌++◌, length, take, drop, Option, None, Some}
use Rattle.std.proofs.Common.{Result, Ok, Err, refl, sym, ◌∙◌, ap, subst, arith, append_assoc, append-nil, length-append, length-drop, length-take-le, take-append-drop}
use Rattle.std.proofs.lemmas.List.{take_all}
use Rattle.std.proofs.Math.Seq.{take-append-add}
use Rattle.std.specs.Io.KnownBytes.{Appends, Consumes, Keeps, prepend_known}
use Rattle.std.proofs.KnownBytes.{Appends-nil, Appends-trans, Consumes-nil, Consumes-trans}
use Rattle.buffered_bytes.specs.Outside.{Outside}
use Rattle.buffered_bytes.specs.Text.{Grows}
use Rattle.escp2_definitions.specs.Commands.{command_at, commands}
use Rattle.escp2_definitions.specs.Commands.Heard.{Part}
use Rattle.escp2_definitions.specs.JobEnds.{Stopped, job_end, list_stop, stopped}
use Rattle.escp2_definitions.specs.declared.stops.JobStop.TheVariants as job_stop
use Rattle.escp2_reader.proofs.Jobs.{ends_cut, ends_too_long, ends_whole, rose_within}
use Rattle.escp2_reader.specs.Jobs.{JobMayGoOn}
use Rattle.finish_definitions.specs.declared.state.PageState.{PageState}
use Rattle.finish_definitions.specs.Finished.{ending_bytes, page_state, whole_commands, whole_from}
use Rattle.job_finisher.proofs.PassedBytes.{whole_are}
use Rattle.job_finisher.specs.declared.finisher.JobFinisher.{JobFinisher}
use Rattle.job_finisher.specs.declared.finisher.PassStop.{PassStop}
use Rattle.job_finisher.specs.declared.finisher.PassStop.TheVariants as pass
use Rattle.job_finisher.specs.declared.job.FinishStop.{FinishStop}
use Rattle.job_finisher.specs.declared.job.FinishStop.TheVariants as stop
use Rattle.job_finisher.specs.Job.{IsPieceEnd, PassResult, TakesJob, TakesPart, is_write_failure, pass_stop}
use Rattle.job_finisher.specs.Outcome.{EndsJob, FinishResult, Finishes, FinishesPart, IsRefused}
use Rattle.job_finisher.specs.Passing.{IsPassStop, Passed, PassesOn, PassesPart, in_hand, state_of}
use Rattle.weave_base.proofs.Parting.{part_behind, part_of_front}
use Rattle.weave_base.specs.Causes.{Rose}
use Rattle.weave_base.specs.Parts.{AppendsPart}

-- ---- a piece, as far as the job may have it

-- the first bytes of a job with a piece are those before the piece, and as many of it as the job may have
cut_piece : (most fed : ℕ) (sofar piece : List ℕ) → length sofar ≡ fed → fed ≤ most
    → take most (sofar ++ piece) ≡ sofar ++ take (most - fed) piece
cut_piece most fed sofar piece is within =
    let split : most ≡ length sofar + (most - fed) = omega (arith, is, within) in
    ap (λ n. take n (sofar ++ piece)) split ∙ take-append-add sofar piece (most - fed)

-- the piece is passed on whole
pub piece_passed : (most fed : ℕ) (finisher : JobFinisher) (out : Outside) (sofar piece first : List ℕ) → first ≡ take (most - fed) piece
    → length piece ≤ most - fed → PassesOn out sofar (sofar ++ first) → Passed finisher (sofar ++ first)
    → PassesOn out sofar (sofar ++ piece) × Passed finisher (sofar ++ piece)
piece_passed most fed finisher out sofar piece first is fits passes passed =
    let same : sofar ++ first ≡ sofar ++ piece = ap (λ bs. sofar ++ bs) (is ∙ take_all (most - fed) piece fits) in
    let P : List ℕ → Type 0 = λ bs. PassesOn out sofar bs × Passed finisher bs in
    subst P same (passes, passed)

-- where the finisher stops within the piece
pub piece_stopped : (most fed : ℕ) (finisher : JobFinisher) (out : Outside) (sofar piece first : List ℕ) (why : PassStop) (answer : FinishStop)
    → length sofar ≡ fed → fed ≤ most → first ≡ take (most - fed) piece → answer ≡ pass_stop why
    → IsPassStop (state_of finisher) out sofar (sofar ++ first) why → IsPieceEnd most finisher out sofar piece (Err answer)
piece_stopped most fed finisher out sofar piece first why answer len within is told stops =
    let whole : take most (sofar ++ piece) ≡ sofar ++ first = cut_piece most fed sofar piece len within ∙ ap (λ bs. sofar ++ bs) (sym is) in
    let P : FinishStop → Type 0 = λ stop. IsPieceEnd most finisher out sofar piece (Err stop) in
    subst P (sym told) (by_stop why whole stops)
  where
    by_stop : (why : PassStop) → take most (sofar ++ piece) ≡ sofar ++ first → IsPassStop (state_of finisher) out sofar (sofar ++ first) why
        → IsPieceEnd most finisher out sofar piece (Err (pass_stop why))
    by_stop (pass.Fault offset cause) whole stops = (
      record {
        grown = stops.0.bytes;
        grow = ap whole_commands whole ∙ stops.0.grow;
        writes = stops.0.writes;
        state_is = stops.1.state_is ∙ ap page_state (sym whole);
      },
      record {
        stops = ap (λ bs. list_stop (commands bs).end most (length (sofar ++ piece))) whole
            ∙ ap (λ end. list_stop end most (length (sofar ++ piece))) stops.1.fault;
        no_cut = λ (e : job_stop.Reader cause ≡ job_stop.Cut). (cc);
      },
    )
    by_stop pass.Write whole stops = let P : List ℕ → Type 0 = PassesPart out sofar in (stops.0, subst P (sym whole) stops.1)

-- the job goes on past its greatest length
pub refused_too_long : (most fed : ℕ) (sofar piece first hand : List ℕ)
    → length sofar ≡ fed → fed ≤ most → first ≡ take (most - fed) piece → most - fed < length piece
    → sofar ++ first ≡ whole_commands (sofar ++ first) ++ hand → command_at hand ≡ Part
    → IsRefused most (sofar ++ piece) most job_stop.TooLong
refused_too_long most fed sofar piece first hand len within is long behind part_is =
    let after : List ℕ = sofar ++ first in
    let done : List ℕ = whole_commands after in
    let rest : List ℕ = drop (most - fed) piece in
    let sized : length first ≡ most - fed = ap length is ∙ length-take-le (most - fed) piece (omega (arith, long)) in
    let parts : done ++ (hand ++ rest) ≡ sofar ++ piece =
    sym (append_assoc done hand rest) ∙ ap (λ bs. bs ++ rest) (sym behind) ∙ append_assoc sofar first rest
    ∙ ap (λ bs. sofar ++ bs) (ap (λ bs. bs ++ rest) is ∙ take-append-drop (most - fed) piece) in
    let full : length done + length hand ≡ most =
    omega (arith, ap length behind, length-append done hand, length-append sofar first, sized, len, within) in
    let more : rest ≡ [] → ⊥ = λ e. omega (arith, ap length e, length-drop (most - fed) piece, long) in
    let ends = ends_too_long done hand rest most (commands after).entries (whole_are after).are full part_is more in
    let P : List ℕ → Type 0 = λ bs. list_stop (commands (take most bs)).end most (length bs) ≡ stopped most job_stop.TooLong in
    record { stops = subst P parts ends.stop_is; no_cut = λ (e : job_stop.TooLong ≡ job_stop.Cut). (cc) }

pub piece_too_long : (most fed : ℕ) (finisher : JobFinisher) (out : Outside) (sofar piece first : List ℕ)
    → length sofar ≡ fed → fed ≤ most → first ≡ take (most - fed) piece → most - fed < length piece
    → PassesOn out sofar (sofar ++ first) → Passed finisher (sofar ++ first)
    → IsPieceEnd most finisher out sofar piece (Err (stop.Job most job_stop.TooLong))
piece_too_long most fed finisher out sofar piece first len within is long passes passed =
    let after : List ℕ = sofar ++ first in
    let whole : take most (sofar ++ piece) ≡ after = cut_piece most fed sofar piece len within ∙ ap (λ bs. sofar ++ bs) (sym is) in (
      record {
        grown = passes.bytes;
        grow = ap whole_commands whole ∙ passes.grow;
        writes = passes.writes;
        state_is = passed.state_is ∙ ap page_state (sym whole);
      },
      refused_too_long most fed sofar piece first (in_hand finisher) len within is long passed.behind passed.part_is,
    )

-- ---- a job, piece by piece

-- These bytes of a job were taken, and their whole commands were passed on.
pub record TakesSoFar (finisher : JobFinisher) (most fed : ℕ) (before now held_before held_now : Option (List ℕ)) : Type 0 where
  pub bytes : List ℕ
  pub taken : Consumes before now bytes
  pub passed : Passed finisher bytes
  pub fed_is : length bytes ≡ fed
  pub within : fed ≤ most
  pub writes : Appends held_before held_now (whole_commands bytes)

-- none
pub takes_none : (finisher : JobFinisher) (most : ℕ) (left held : Option (List ℕ)) → Passed finisher []
    → TakesSoFar finisher most 0 left left held held
unfolding whole_from
takes_none finisher most left held passed = record {
  bytes = [];
  taken = Consumes-nil left;
  passed = passed;
  fed_is = refl;
  within = omega arith;
  writes = Appends-nil held;
}

-- what a read took, where nothing was left of the reads before it
read_taken : (left now : Option (List ℕ)) (old new : List ℕ) → old ≡ [] → Keeps (prepend_known old left) (prepend_known new now)
    → Consumes left now new
read_taken None now old new none kept = tt
read_taken (Some xs) None old new none kept = absurd kept
read_taken (Some xs) (Some ys) old new none kept = sym (kept ∙ ap (λ bs. bs ++ xs) none)

-- as the piece that is passed on
pub piece_taken : (left now : Option (List ℕ)) (old new piece : List ℕ) → piece ≡ new → old ≡ []
    → Keeps (prepend_known old left) (prepend_known new now) → Consumes left now piece
piece_taken left now old new piece is none kept =
    let P : List ℕ → Type 0 = Consumes left now in subst P (sym is) (read_taken left now old new none kept)

-- how many bytes it took
pub grows_length : (old new : List ℕ) (count : ℕ) → Grows old new count → old ≡ [] → length new ≡ count
grows_length old new count grows empty =
    omega (arith, ap length grows.is, length-append old grows.chunk, ap length empty, grows.long)

pub piece_long : (old new piece : List ℕ) (count : ℕ) → piece ≡ new → Grows old new count → old ≡ [] → length piece ≡ count
piece_long old new piece count is grows empty = ap length is ∙ grows_length old new count grows empty

-- a read that took nothing
pub grows_none : (old new : List ℕ) (count : ℕ) → Grows old new count → count ≡ 0 → old ≡ [] → new ≡ []
grows_none old new count grows none empty = none_of new (omega (arith, grows_length old new count grows empty, none))
  where
    none_of : (bytes : List ℕ) → length bytes ≡ 0 → bytes ≡ []
    none_of [] len = refl
    none_of (b ∷ bytes) len = absurd (omega (arith, len))

pub takes_kept : (finisher : JobFinisher) (most fed : ℕ) (before text now held held_now : Option (List ℕ)) (old new : List ℕ)
    → TakesSoFar finisher most fed before text held held_now → old ≡ [] → new ≡ []
    → Keeps (prepend_known old text) (prepend_known new now) → TakesSoFar finisher most fed before now held held_now
takes_kept finisher most fed before text now held held_now old new so_far empty none kept =
    let P : List ℕ → Type 0 = Consumes before now in
    let all : so_far.bytes ++ new ≡ so_far.bytes = ap (λ bs. so_far.bytes ++ bs) none ∙ append-nil so_far.bytes in
    record {
      bytes = so_far.bytes;
      taken = subst P all (Consumes-trans before text now so_far.bytes new so_far.taken (read_taken text now old new empty kept));
      passed = so_far.passed;
      fed_is = so_far.fed_is;
      within = so_far.within;
      writes = so_far.writes;
    }

-- a piece more
pub takes_more : (old finisher : JobFinisher) (most fed next : ℕ) (before text now : Option (List ℕ)) (out : Outside) (held : Option (List ℕ)) (piece : List ℕ)
    (so_far : TakesSoFar old most fed before text held out.before) → Consumes text now piece → fed + length piece ≤ most
    → next ≡ fed + length piece → PassesOn out so_far.bytes (so_far.bytes ++ piece) → Passed finisher (so_far.bytes ++ piece)
    → TakesSoFar finisher most next before now held out.now
takes_more old finisher most fed next before text now out held piece so_far taken within next_is passes passed =
    let P : List ℕ → Type 0 = Appends held out.now in
    record {
      bytes = so_far.bytes ++ piece;
      taken = Consumes-trans before text now so_far.bytes piece so_far.taken taken;
      passed = passed;
      fed_is = omega (arith, so_far.fed_is, next_is, length-append so_far.bytes piece);
      within = omega (arith, next_is, within);
      writes = subst P (sym passes.grow)
          (Appends-trans held out.before out.now (whole_commands so_far.bytes) passes.bytes so_far.writes passes.writes);
    }

-- the bytes that were passed on are within the job's greatest length
taken_all : (finisher : JobFinisher) (most fed : ℕ) (before now held held_now : Option (List ℕ))
    (so_far : TakesSoFar finisher most fed before now held held_now) → take most so_far.bytes ≡ so_far.bytes
taken_all finisher most fed before now held held_now so_far = take_all most so_far.bytes (omega (arith, so_far.fed_is, so_far.within))

-- more bytes could mend where these end
pub may_go_on : (most : ℕ) (bytes hand : List ℕ) → bytes ≡ whole_commands bytes ++ hand → command_at hand ≡ Part → length bytes ≤ most
    → JobMayGoOn (job_end bytes most None)
may_go_on most bytes [] is part within =
    let same : bytes ≡ whole_commands bytes = is ∙ append-nil (whole_commands bytes) in
    let ends = ends_whole (whole_commands bytes) most (commands bytes).entries (whole_are bytes).are (omega (arith, ap length same, within)) in
    let P : List ℕ → Type 0 = λ bs. list_stop (commands (take most bs)).end most (length bs) ≡ None in
    let Q : Option Stopped → Type 0 = JobMayGoOn in
    subst Q (sym (subst P (sym same) ends.stop_is)) tt
may_go_on most bytes (b ∷ hand) is part within =
    let some : b ∷ hand ≡ [] → ⊥ = λ e. omega (arith, ap length e) in
    let ends = ends_cut (whole_commands bytes) (b ∷ hand) most (commands bytes).entries (whole_are bytes).are
    (omega (arith, ap length is, length-append (whole_commands bytes) (b ∷ hand), within)) part some in
    let P : List ℕ → Type 0 = λ bs. list_stop (commands (take most bs)).end most (length bs)
    ≡ stopped (length (whole_commands bytes)) job_stop.Cut in
    let Q : Option Stopped → Type 0 = JobMayGoOn in
    subst Q (sym (subst P (sym is) ends.stop_is)) refl

-- the job ends with a whole command or inside one, at the end of the source or at a failed read
pub takes_end : (finisher : JobFinisher) (most fed : ℕ) (input out : Outside) (answer : Result (Unit {0}) FinishStop)
    (so_far : TakesSoFar finisher most fed input.before input.now out.before out.now)
    → (JobMayGoOn (job_end so_far.bytes most None) → EndsJob most input so_far.bytes answer) → TakesJob most finisher input out answer
takes_end finisher most fed input out answer so_far ends =
    let all : take most so_far.bytes ≡ so_far.bytes = taken_all finisher most fed input.before input.now out.before out.now so_far in
    let P : List ℕ → Type 0 = λ bs. Appends out.before out.now (whole_commands bs) in
    record {
      bytes = so_far.bytes;
      taken = so_far.taken;
      ends = ends (may_go_on most so_far.bytes (in_hand finisher) so_far.passed.behind so_far.passed.part_is (omega (arith, so_far.fed_is, so_far.within)));
      writes = subst P (sym all) so_far.writes;
      state_is = so_far.passed.state_is ∙ ap page_state (sym all);
    }

-- the job ends within a piece
pub takes_stop : (old finisher : JobFinisher) (most fed : ℕ) (text : Option (List ℕ)) (input out : Outside) (middle : Option (List ℕ)) (faults : ℕ)
    (piece : List ℕ) (answer : FinishStop)
    (so_far : TakesSoFar old most fed input.before text out.before middle) → Consumes text input.now piece → out.faults_before ≤ faults
    → IsPieceEnd most finisher (record { before = middle; now = out.now; faults_before = faults; faults_now = out.faults_now })
    so_far.bytes piece (Err answer)
    → PassResult most finisher input out (Err answer)
takes_stop old finisher most fed text input out middle faults piece (stop.Job offset cause) so_far taken later ends =
    let P : List ℕ → Type 0 = Appends out.before out.now in
    record {
      bytes = so_far.bytes ++ piece;
      taken = Consumes-trans input.before text input.now so_far.bytes piece so_far.taken taken;
      ends = ends.1;
      writes = subst P (sym ends.0.grow)
          (Appends-trans out.before middle out.now (whole_commands so_far.bytes) ends.0.grown so_far.writes ends.0.writes);
      state_is = ends.0.state_is;
    }
takes_stop old finisher most fed text input out middle faults piece stop.Read so_far taken later ends = absurd ends
takes_stop old finisher most fed text input out middle faults piece stop.Write so_far taken later ends =
    let P : List ℕ → Type 0 = AppendsPart out.before out.now in (
      rose_within out.faults_before faults out.faults_now out.faults_now later ends.0 (omega arith),
      record {
        bytes = so_far.bytes ++ piece;
        taken = Consumes-trans input.before text input.now so_far.bytes piece so_far.taken taken;
        writes = subst P (sym ends.1.grow)
            (part_behind out.before middle out.now (whole_commands so_far.bytes) ends.1.bytes so_far.writes ends.1.writes);
      },
    )
takes_stop old finisher most fed text input out middle faults piece stop.Memory so_far taken later ends = absurd ends

-- ---- the end of the page

-- a write failed before the end of the page
finishes_part : (most : ℕ) (input out : Outside) → TakesPart most input out → FinishesPart most input out
finishes_part most input out takes = record {
  bytes = takes.bytes;
  taken = takes.taken;
  writes = part_of_front out.before out.now (whole_commands (take most takes.bytes)) (ending_bytes (page_state (take most takes.bytes))) takes.writes;
}

-- the whole commands were passed on, but where a write failed
takes_job : (most : ℕ) (finisher : JobFinisher) (input out : Outside) (answer : Result (Unit {0}) FinishStop) → is_write_failure answer ≡ false
    → PassResult most finisher input out answer → TakesJob most finisher input out answer
takes_job most finisher input out (Ok u) fine takes = takes
takes_job most finisher input out (Err (stop.Job offset cause)) fine takes = takes
takes_job most finisher input out (Err stop.Read) fine takes = takes
takes_job most finisher input out (Err stop.Write) fine takes = absurd (let wrong : true ≡ false = fine in cc)
takes_job most finisher input out (Err stop.Memory) fine takes = absurd takes

-- the result of a job whose page is ended
finish_result : (most : ℕ) (input out : Outside) (answer : Result (Unit {0}) FinishStop) → is_write_failure answer ≡ false
    → Finishes most input out answer → FinishResult most input out answer
finish_result most input out (Ok u) fine finishes = finishes
finish_result most input out (Err (stop.Job offset cause)) fine finishes = finishes
finish_result most input out (Err stop.Read) fine finishes = finishes
finish_result most input out (Err stop.Write) fine finishes = absurd (let wrong : true ≡ false = fine in cc)
finish_result most input out (Err stop.Memory) fine finishes = absurd finishes.ends

-- a sink at a call, and before the end of the page was written
abbrev before_end : Outside → Option (List ℕ) → ℕ → Outside
before_end out middle faults = record { before = out.before; now = middle; faults_before = out.faults_before; faults_now = faults }

-- the page is ended
pub job_finished : (most : ℕ) (finisher : JobFinisher) (input out : Outside) (middle : Option (List ℕ)) (faults : ℕ)
    (answer : Result (Unit {0}) FinishStop) → is_write_failure answer ≡ false
    → PassResult most finisher input (before_end out middle faults) answer
    → Appends middle out.now (ending_bytes (state_of finisher)) → FinishResult most input out answer
job_finished most finisher input out middle faults answer fine result writes =
    let takes : TakesJob most finisher input (before_end out middle faults) answer =
    takes_job most finisher input (before_end out middle faults) answer fine result in
    let whole : List ℕ = whole_commands (take most takes.bytes) in
    let P : PageState → Type 0 = λ state. Appends out.before out.now (whole ++ ending_bytes state) in
    finish_result most input out answer fine (record {
      bytes = takes.bytes;
      taken = takes.taken;
      ends = takes.ends;
      writes = subst P takes.state_is
          (Appends-trans out.before middle out.now whole (ending_bytes (state_of finisher)) takes.writes writes);
    })

-- the write of its end failed
pub end_failed : (most : ℕ) (finisher : JobFinisher) (input out : Outside) (middle : Option (List ℕ)) (faults : ℕ)
    (answer : Result (Unit {0}) FinishStop) → is_write_failure answer ≡ false
    → PassResult most finisher input (before_end out middle faults) answer → out.faults_before ≤ faults → Rose faults out.faults_now
    → AppendsPart middle out.now (ending_bytes (state_of finisher)) → FinishResult most input out (Err stop.Write)
end_failed most finisher input out middle faults answer fine result later rose writes =
    let takes : TakesJob most finisher input (before_end out middle faults) answer =
    takes_job most finisher input (before_end out middle faults) answer fine result in
    let whole : List ℕ = whole_commands (take most takes.bytes) in
    let P : PageState → Type 0 = λ state. AppendsPart out.before out.now (whole ++ ending_bytes state) in (
      rose_within out.faults_before faults out.faults_now out.faults_now later rose (omega arith),
      record {
        bytes = takes.bytes;
        taken = takes.taken;
        writes = subst P takes.state_is
            (part_behind out.before middle out.now whole (ending_bytes (state_of finisher)) takes.writes writes);
      },
    )

-- a write failed before the end of the page
pub write_failed : (most : ℕ) (finisher : JobFinisher) (input out : Outside) (answer : Result (Unit {0}) FinishStop) → is_write_failure answer ≡ true
    → PassResult most finisher input out answer → FinishResult most input out answer
write_failed most finisher input out (Ok u) failed result = absurd (let wrong : false ≡ true = failed in cc)
write_failed most finisher input out (Err (stop.Job offset cause)) failed result = absurd (let wrong : false ≡ true = failed in cc)
write_failed most finisher input out (Err stop.Read) failed result = absurd (let wrong : false ≡ true = failed in cc)
write_failed most finisher input out (Err stop.Write) failed result = (result.0, finishes_part most input out result.1)
write_failed most finisher input out (Err stop.Memory) failed result = absurd (let wrong : false ≡ true = failed in cc)

-- there is no memory at the beginning
pub finish_nothing : (most : ℕ) {left held : Option (List ℕ)} {f g : ℕ}
    → FinishResult most (record { before = left; now = left; faults_before = f; faults_now = f })
    (record { before = held; now = held; faults_before = g; faults_now = g }) (Err stop.Memory)
finish_nothing most = (record { same = refl; faults = refl }, record { same = refl; faults = refl })
