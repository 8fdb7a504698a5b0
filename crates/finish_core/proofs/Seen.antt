-- What the parts of a job took of the next bytes.
use Rattle.std.proofs.Common.{◌≡◌, ℕ, true, false, List, [], ◌∷◌, ◌++◌, length, take, drop, inl, Option, None, Some, subst, ◌≤◌, refl, sym, ◌∙◌, ap, arith, append_assoc, append-nil}
use Rattle.std.proofs.Common.{take-append-drop}
use Rattle.buffered_bytes.specs.Outside.{Outside}
use Rattle.escp2_definitions.specs.declared.command.Command.{Command}
use Rattle.escp2_definitions.specs.declared.command.Command.TheVariants as c
use Rattle.escp2_definitions.specs.declared.stops.JobCause.{JobCause}
use Rattle.escp2_definitions.specs.declared.stops.JobStop.TheVariants as job_stop
use Rattle.escp2_definitions.specs.Commands.{CommandList, Entry, commands}
use Rattle.escp2_definitions.specs.JobEnds.{list_stop}
use Rattle.std.proofs.lemmas.List.{append_cancel_left}
use Rattle.std.specs.Io.KnownBytes.{Appends}
use Rattle.weave_base.specs.Parts.{AppendsPart}
use Rattle.finish_core.proofs.Bytes.{whole_more}
use Rattle.finish_core.specs.declared.halts.Halt.{Halt}
use Rattle.finish_core.specs.declared.halts.Halt.TheVariants as halt
use Rattle.finish_core.specs.declared.parts.Parts.{Parts}
use Rattle.finish_core.specs.Passing.{BringsCommands, IsStop, PassesSeen, Reads, Stands, StopsAtFault, StopsPart, fault_halt, is_init, is_reset}
use Rattle.finish_core.specs.Passing.{job_of, most_job, page_in_hand}
use Rattle.finish_definitions.specs.declared.state.PageState.{PageState}
use Rattle.finish_definitions.specs.declared.state.PageState.TheVariants.{Between}
use Rattle.finish_definitions.specs.Finished.{ending_bytes, page_after, page_from, page_state, whole_commands, whole_from}
use Rattle.job_finisher.proofs.PartBounds.{part-short}
use Rattle.job_finisher.proofs.PassedBytes.{held_split}
use Rattle.job_finisher.specs.Hearing.{left_behind, made_whole, most_held}
use Rattle.job_finisher.specs.Holding.{held_in}
use Rattle.job_finisher.specs.Passing.{PassesOn, PassesPart}
use Rattle.page_tally.proofs.Following.{job-state}
use Rattle.page_tally.specs.declared.lines.Telling.{Telling}
use Rattle.page_tally.specs.Lines.{lines_from}
use Rattle.page_tally.specs.Tallies.{no_tally, tally_from}
use Rattle.page_tally.specs.declared.tally.Tally.{Tally}
use Rattle.page_watch.specs.declared.watch.Event.{Event}
use Rattle.page_watch.specs.declared.watch.PageWatch.{PageWatch}
use Rattle.page_watch.specs.declared.watch.SeenState.{SeenState}
use Rattle.page_watch.specs.declared.watch.SeenState.TheVariants as seen
use Rattle.page_watch.specs.Watching.{EndsWhole, EndsWith, GrowsQuietly, IsSeen, HasFault, Watched, seen_lines, tally_behind, tally_of, told}

-- ---- the bytes that were taken

-- where parts stand, by what they counted
pub stands_by : (parts : Parts) (bytes : List ℕ) → tally_of parts.watch ≡ tally_behind bytes → Stands parts bytes
stands_by parts bytes is = record {
  state_is = ap (λ (t : Tally). t.state) is ∙ job-state (commands bytes).entries;
  tally_is = is;
}

-- at the first byte of a job
pub reads_none : (parts : Parts) → held_in parts.held ≡ [] → Watched parts.watch [] → Reads parts []
unfolding whole_from
reads_none parts none watched = record { behind = sym none; watched = watched }

-- the whole commands grew by those that the next bytes made whole
whole_made : (whole : Option ℕ) (sofar hand used : List ℕ) → sofar ≡ whole_commands sofar ++ hand → EndsWhole whole sofar used
    → whole_commands (sofar ++ used) ≡ whole_commands sofar ++ made_whole whole hand used
whole_made None sofar hand used behind ends = ends ∙ sym (append-nil (whole_commands sofar))
whole_made (Some end) sofar hand used behind ends =
    ends ∙ ap (λ bs. bs ++ take end used) behind ∙ append_assoc (whole_commands sofar) hand (take end used)

pub writes_made : (out : Outside) (whole : Option ℕ) (sofar hand used : List ℕ) → sofar ≡ whole_commands sofar ++ hand
    → EndsWhole whole sofar used → Appends out.before out.now (made_whole whole hand used) → PassesOn out sofar (sofar ++ used)
writes_made out whole sofar hand used behind ends writes = record {
  bytes = made_whole whole hand used;
  grow = whole_made whole sofar hand used behind ends;
  writes = writes;
}

pub writes_part : (out : Outside) (whole : Option ℕ) (sofar hand used : List ℕ) → sofar ≡ whole_commands sofar ++ hand
    → EndsWhole whole sofar used → AppendsPart out.before out.now (made_whole whole hand used) → PassesPart out sofar (sofar ++ used)
writes_part out whole sofar hand used behind ends writes = record {
  bytes = made_whole whole hand used;
  grow = whole_made whole sofar hand used behind ends;
  writes = writes;
}

-- the bytes left behind are those behind the whole commands
left_is : (whole : Option ℕ) (sofar hand used : List ℕ) → sofar ≡ whole_commands sofar ++ hand → EndsWhole whole sofar used
    → sofar ++ used ≡ whole_commands (sofar ++ used) ++ left_behind whole hand used
left_is whole sofar hand used behind ends =
    held_split sofar hand used whole behind
    ∙ ap (λ bs. bs ++ left_behind whole hand used) (sym (whole_made whole sofar hand used behind ends))

-- a part of a command has room
part_fits : (watch : PageWatch) (whole : Option ℕ) (sofar hand used : List ℕ) → sofar ≡ whole_commands sofar ++ hand
    → EndsWhole whole sofar used → Watched watch (sofar ++ used) → length (left_behind whole hand used) ≤ most_held
part_fits watch whole sofar hand used behind ends watched =
    let left : List ℕ = left_behind whole hand used in
    let same : left ≡ watched.part = append_cancel_left (whole_commands (sofar ++ used)) left watched.part
    (sym (left_is whole sofar hand used behind ends) ∙ watched.behind) in
    omega (arith, ap length same, part-short watched.part watched.stands.bytes watched.part_is)

-- and so have the bytes behind the whole commands, where there is no fault
pub left_fits : (state : SeenState) (telling : Telling) (watch : PageWatch) (whole : Option ℕ) (sofar hand used : List ℕ)
    → None ≡ fault_halt state → sofar ≡ whole_commands sofar ++ hand → EndsWhole whole sofar used
    → IsSeen state telling watch sofar (sofar ++ used) → length (left_behind whole hand used) ≤ most_held
left_fits seen.More telling watch whole sofar hand used none behind ends is = part_fits watch whole sofar hand used behind ends is.0
left_fits (seen.Due event) telling watch whole sofar hand used none behind ends is = part_fits watch whole sofar hand used behind ends is.0
left_fits (seen.Fault offset cause) telling watch whole sofar hand used none behind ends is =
    absurd (let no : None ≡ Some (halt.Job offset (job_stop.Reader cause)) = none in cc)

-- the parts behind the next bytes
reads_more : (parts : Parts) (whole : Option ℕ) (sofar hand used : List ℕ) → sofar ≡ whole_commands sofar ++ hand
    → EndsWhole whole sofar used → held_in parts.held ≡ left_behind whole hand used → Watched parts.watch (sofar ++ used)
    → Reads parts (sofar ++ used)
reads_more parts whole sofar hand used behind ends kept watched = record {
  behind = left_is whole sofar hand used behind ends ∙ ap (λ bs. whole_commands (sofar ++ used) ++ bs) (sym kept);
  watched = watched;
}

-- The parts took the next bytes, without a fault.
pub passes_seen : (telling : Telling) (parts : Parts) (out : Outside) (whole : Option ℕ) (sofar hand used : List ℕ) (state : SeenState)
    → None ≡ fault_halt state → sofar ≡ whole_commands sofar ++ hand → EndsWhole whole sofar used
    → held_in parts.held ≡ left_behind whole hand used
    → IsSeen state telling parts.watch sofar (sofar ++ used) → PassesOn out sofar (sofar ++ used)
    → told telling (sofar ++ used) ≡ told telling sofar ++ seen_lines telling (tally_of parts.watch) state
    → PassesSeen telling parts out sofar (sofar ++ used) state
passes_seen telling parts out whole sofar hand used seen.More none behind ends kept is passes lines = record {
  reads = reads_more parts whole sofar hand used behind ends kept is.0;
  passes = passes;
  lines = lines;
  ends = tt;
}
passes_seen telling parts out whole sofar hand used (seen.Due event) none behind ends kept is passes lines = record {
  reads = reads_more parts whole sofar hand used behind ends kept is.0;
  passes = passes;
  lines = lines;
  ends = is.1;
}
passes_seen telling parts out whole sofar hand used (seen.Fault offset cause) none behind ends kept is passes lines =
    absurd (let no : None ≡ Some (halt.Job offset (job_stop.Reader cause)) = none in cc)

-- the job with those that follow
pub job_split : (sofar piece full : List ℕ) (used : ℕ) → job_of full ≡ sofar ++ piece
    → job_of full ≡ (sofar ++ take used piece) ++ drop used piece
job_split sofar piece full used is =
    is ∙ ap (λ bs. sofar ++ bs) (sym (take-append-drop used piece)) ∙ sym (append_assoc sofar (take used piece) (drop used piece))

-- ---- a write that failed

-- the whole commands of bytes stay, whatever follows
record Extends (bytes rest : List ℕ) : Type 0 where
  pub later : List ℕ
  pub is : whole_commands (bytes ++ rest) ≡ whole_commands bytes ++ later

seen_extends : (state : SeenState) (telling : Telling) (watch : PageWatch) (before after rest : List ℕ)
    → IsSeen state telling watch before after → Extends after rest
seen_extends seen.More telling watch before after rest is = record {
  later = whole_commands (is.0.part ++ rest);
  is = whole_more after is.0.part rest is.0.behind;
}
seen_extends (seen.Due event) telling watch before after rest is = record {
  later = whole_commands (is.0.part ++ rest);
  is = whole_more after is.0.part rest is.0.behind;
}
seen_extends (seen.Fault offset cause) telling watch before after rest is = record {
  later = [];
  is = is.0.whole_stays rest ∙ sym (append-nil (whole_commands after));
}

-- the commands that the next bytes make whole, if none is of interest
grows_quietly : (telling : Telling) (before after next : List ℕ) → whole_commands after ≡ whole_commands before ++ next
    → GrowsQuietly telling before after → BringsCommands telling before next
grows_quietly telling before after next whole grows = record {
  after = after;
  whole = whole;
  between = grows.between;
  last = [];
  grow = grows.grow ∙ sym (append-nil ((commands before).entries ++ grows.between));
  quiet = grows.quiet;
  few = omega arith;
}

-- the commands that the next bytes make whole
brings : (state : SeenState) (telling : Telling) (watch : PageWatch) (before after next : List ℕ)
    → whole_commands after ≡ whole_commands before ++ next → IsSeen state telling watch before after → BringsCommands telling before next
brings seen.More telling watch before after next whole is = grows_quietly telling before after next whole is.1
brings (seen.Due event) telling watch before after next whole is = record {
  after = after;
  whole = whole;
  between = is.1.between;
  last = is.1.last ∷ [];
  grow = is.1.grow;
  quiet = is.1.quiet;
  few = omega arith;
}
brings (seen.Fault offset cause) telling watch before after next whole is = grows_quietly telling before after next whole is.1

-- A proper prefix of what the next bytes make whole was written.
pub stops_part : (telling : Telling) (watch : PageWatch) (out : Outside) (sofar piece full : List ℕ) (used : ℕ) (state : SeenState) (page : ℕ)
    → job_of full ≡ sofar ++ piece → IsSeen state telling watch sofar (sofar ++ take used piece)
    → PassesPart out sofar (sofar ++ take used piece) → page ≡ page_in_hand (tally_behind sofar) → StopsPart telling out sofar full page
stops_part telling watch out sofar piece full used state page cut is passes page_is =
    let after : List ℕ = sofar ++ take used piece in
    let more = seen_extends state telling watch sofar after (drop used piece) is in
    let ending : List ℕ = ending_bytes (page_state (job_of full)) in
    let whole : whole_commands (job_of full) ≡ (whole_commands sofar ++ passes.bytes) ++ more.later =
    ap whole_commands (job_split sofar piece full used cut) ∙ more.is ∙ ap (λ bs. bs ++ more.later) passes.grow in
    record {
      rest = piece;
      next = passes.bytes;
      more = more.later ++ ending;
      split = cut;
      grow = ap (λ bs. bs ++ ending) whole ∙ append_assoc (whole_commands sofar ++ passes.bytes) more.later ending;
      near = inl (brings state telling watch sofar after passes.bytes passes.grow is);
      page_is = page_is;
      part = passes.writes;
    }

-- ---- a fault

fault_stops : (telling : Telling) (parts : Parts) (out : Outside) (sofar piece full : List ℕ) (used offset : ℕ) (cause : JobCause)
    → job_of full ≡ sofar ++ piece → HasFault parts.watch (sofar ++ take used piece) offset cause
    → told telling (sofar ++ take used piece) ≡ told telling sofar ++ []
    → PassesOn out sofar (sofar ++ take used piece)
    → StopsAtFault telling parts out sofar full offset (job_stop.Reader cause)
fault_stops telling parts out sofar piece full used offset cause cut has lines passes =
    let after : List ℕ = sofar ++ take used piece in
    let rest : List ℕ = drop used piece in
    let all : job_of full ≡ after ++ rest = job_split sofar piece full used cut in
    let same : commands (job_of full) ≡ commands after = ap commands all ∙ has.stays rest in
    record {
      passes = record {
        bytes = passes.bytes;
        grow = ap whole_commands all ∙ has.whole_stays rest ∙ passes.grow;
        writes = passes.writes;
      };
      lines = ap (λ (l : CommandList). lines_from telling no_tally l.entries) same ∙ lines ∙ append-nil (told telling sofar);
      stands = stands_by parts (job_of full)
          (has.tally_is ∙ sym (ap (λ (l : CommandList). tally_from no_tally l.entries) same));
      refused = record {
        stops = ap (λ (l : CommandList). list_stop l.end most_job (length full)) same
            ∙ ap (λ end. list_stop end most_job (length full)) has.fault;
        no_cut = λ (e : job_stop.Reader cause ≡ job_stop.Cut). (cc);
      };
    }

-- The job has a fault in the next bytes.
pub stops_at_fault : (telling : Telling) (parts : Parts) (out : Outside) (sofar piece full : List ℕ) (used : ℕ) (state : SeenState) (why : Halt)
    → Some why ≡ fault_halt state → job_of full ≡ sofar ++ piece → IsSeen state telling parts.watch sofar (sofar ++ take used piece)
    → told telling (sofar ++ take used piece) ≡ told telling sofar ++ seen_lines telling (tally_of parts.watch) state
    → PassesOn out sofar (sofar ++ take used piece) → IsStop telling parts out sofar full why
stops_at_fault telling parts out sofar piece full used seen.More why fault cut is lines passes =
    absurd (let no : Some why ≡ None = fault in cc)
stops_at_fault telling parts out sofar piece full used (seen.Due event) why fault cut is lines passes =
    absurd (let no : Some why ≡ None = fault in cc)
stops_at_fault telling parts out sofar piece full used (seen.Fault offset cause) why fault cut is lines passes =
    let same : why ≡ halt.Job offset (job_stop.Reader cause) = cc in
    let P : Halt → Type 0 = IsStop telling parts out sofar full in
    subst P (sym same) (fault_stops telling parts out sofar piece full used offset cause cut is.0 lines passes)

-- ---- a reset

page_snoc : (state : PageState) (entries : List Entry) (last : Entry)
    → page_from state (entries ++ last ∷ []) ≡ page_after (page_from state entries) last.command
page_snoc state [] last = refl
page_snoc state (entry ∷ entries) last = page_snoc (page_after state entry.command) entries last

init_ends : (state : PageState) (command : Command) → is_init command ≡ true → page_after state command ≡ Between
init_ends state c.Init is = refl
init_ends state other is = absurd (let no : false ≡ true = is in cc)

-- Behind a reset the bytes are whole commands, and end between pages.
pub record IsBetween (bytes : List ℕ) : Type 0 where
  pub whole : whole_commands bytes ≡ bytes
  pub between : page_state bytes ≡ Between

reset_event : (telling : Telling) (sofar after : List ℕ) (event : Event) → EndsWith event telling sofar after → is_init event.command ≡ true
    → IsBetween after
reset_event telling sofar after event ends is =
    let state : PageState = page_from Between ((commands sofar).entries ++ ends.between) in
    record {
      whole = ends.whole;
      between = ap (page_from Between) ends.grow ∙ page_snoc Between ((commands sofar).entries ++ ends.between) ends.last
          ∙ init_ends state ends.last.command (sym (ap is_init ends.command_is) ∙ is);
    }

pub reset_seen : (telling : Telling) (parts : Parts) (out : Outside) (sofar after : List ℕ) (state : SeenState)
    → PassesSeen telling parts out sofar after state → is_reset state ≡ true → IsBetween after
reset_seen telling parts out sofar after seen.More passes is = absurd (let no : false ≡ true = is in cc)
reset_seen telling parts out sofar after (seen.Due event) passes is = reset_event telling sofar after event passes.ends is
reset_seen telling parts out sofar after (seen.Fault offset cause) passes is = absurd (let no : false ≡ true = is in cc)
