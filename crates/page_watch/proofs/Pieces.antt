-- A piece that is fed, up to a command of interest.
use Rattle.std.proofs.Common.{◌≡◌, ℕ, ◌+◌, ◌-◌, ◌≤◌, true, false, List, [], ◌∷◌, ◌++◌, length, take, drop, Option, None, Some, IfSome}
use Rattle.std.proofs.Common.{refl, sym, ◌∙◌, ap, subst, arith, append_assoc, append-nil, length-drop}
use Rattle.std.proofs.lemmas.List.{take_all, take-append-le}
use Rattle.std.proofs.Math.Seq.{take-add}
use Rattle.std.proofs.lemmas.List.Elements.{All-append, All-cons, All-nil}
use Rattle.escp2_definitions.specs.declared.command.Command.{Command}
use Rattle.escp2_definitions.specs.declared.stops.JobCause.{JobCause}
use Rattle.escp2_definitions.specs.Commands.{Entry, command_at, commands, in_table, rows_len}
use Rattle.escp2_reader.specs.declared.reader.HeardState.{HeardState}
use Rattle.escp2_reader.specs.declared.reader.HeardState.TheVariants as heard
use Rattle.escp2_reader.specs.declared.reader.JobReader.{JobReader}
use Rattle.escp2_reader.specs.Reading.{HeardFault, HeardMore, HeardOne, IsHeard, StandsFor, begin_of, is_failed_of, rows_of}
use Rattle.finish_definitions.specs.Finished.{whole_commands}
use Rattle.page_tally.specs.Tallies.{no_tally, tally_after, tally_from}
use Rattle.page_tally.specs.declared.lines.Telling.{Telling}
use Rattle.page_watch.specs.declared.watch.Event.{Event}
use Rattle.page_watch.specs.declared.watch.PageWatch.{PageWatch}
use Rattle.page_watch.specs.Watching.{EndsWhole, EndsWith, GrowsQuietly, HasFault, Watched, is_due, tally_of}
use Rattle.page_watch.proofs.Fed.{MoreBy, fault_more, one_more, part_keeps, part_more, wrong_keeps}

-- ---- a piece, up to an event

-- What was read of a piece has no command of interest.
pub record ReadsOn (telling : Telling) (watch : PageWatch) (before now : List ℕ) : Type 0 where
  pub watched : Watched watch now
  pub quiet : GrowsQuietly telling before now

-- the same of equal bytes
reads_as : (telling : Telling) (watch : PageWatch) (before now later : List ℕ) → now ≡ later → ReadsOn telling watch before now
    → ReadsOn telling watch before later
reads_as telling watch before now later is so_far = let P : List ℕ → Type 0 = ReadsOn telling watch before in subst P is so_far

-- bytes that have no further command
grows_same : (telling : Telling) (before now later : List ℕ) → (commands later).entries ≡ (commands now).entries
    → GrowsQuietly telling before now → GrowsQuietly telling before later
grows_same telling before now later same so_far = record { between = so_far.between; grow = same ∙ so_far.grow; quiet = so_far.quiet }

-- one command more, which is not of interest
grows_one : (telling : Telling) (before now later : List ℕ) (entry : Entry) → (commands later).entries ≡ (commands now).entries ++ entry ∷ []
    → is_due telling entry.command ≡ false → GrowsQuietly telling before now → GrowsQuietly telling before later
grows_one telling before now later entry grow idle so_far =
    let P : Entry → Type 0 = λ (e : Entry). is_due telling e.command ≡ false in
    record {
      between = so_far.between ++ entry ∷ [];
      grow = grow ∙ ap (λ es. es ++ entry ∷ []) so_far.grow ∙ append_assoc (commands before).entries so_far.between (entry ∷ []);
      quiet = All-append P so_far.between (entry ∷ []) so_far.quiet (All-cons P entry [] idle (All-nil P));
    }

-- an event ends the bytes
ends_with : (telling : Telling) (event : Event) (old new : PageWatch) (before now later : List ℕ) → ReadsOn telling old before now
    → MoreBy new now later event.command → event.before ≡ tally_of old → is_due telling event.command ≡ true
    → EndsWith event telling before later
ends_with telling event old new before now later so_far more before_is due = record {
  whole = more.whole;
  between = so_far.quiet.between;
  last = more.entry;
  grow = more.grow ∙ ap (λ es. es ++ more.entry ∷ []) so_far.quiet.grow;
  quiet = so_far.quiet.quiet;
  due = due;
  command_is = sym more.is;
  before_is = before_is ∙ so_far.watched.tally_is ∙ ap (tally_from no_tally) so_far.quiet.grow;
}

-- ---- an answer of the reader

-- the reader's answer, whatever it was fed before
abbrev pub Hears : PageWatch → JobReader → HeardState → List ℕ → Type 0
Hears old new answer more =
    (part : List ℕ) → StandsFor old.reader part → IsHeard answer (begin_of old.reader) new (part ++ more)

-- the same for the bytes in hand
hears_behind : (old : PageWatch) (new : JobReader) (answer is : HeardState) (sofar more : List ℕ) (watched : Watched old sofar)
    → answer ≡ is → Hears old new answer more → IsHeard is (begin_of old.reader) new (watched.part ++ more)
hears_behind old new answer is sofar more watched same hears =
    let P : HeardState → Type 0 = λ h. IsHeard h (begin_of old.reader) new (watched.part ++ more) in
    subst P same (hears watched.part watched.stands)

-- ---- the next bytes of a piece

-- the bytes of a piece up to a place, and those that are used from there on
pub used_more : (piece : List ℕ) (at used : ℕ) → at ≤ length piece
    → take (at + used) piece ≡ take at piece ++ take used (take (length piece - at) (drop at piece))
used_more piece at used within =
    let whole : take (length piece - at) (drop at piece) ≡ drop at piece = take_all (length piece - at) (drop at piece)
    (omega (arith, length-drop at piece)) in
    take-add at used piece ∙ ap (λ bs. take at piece ++ take used bs) (sym whole)

-- a job with them
grown_by : (before front more all : List ℕ) → all ≡ front ++ more → (before ++ front) ++ more ≡ before ++ all
grown_by before front more all is = append_assoc before front more ∙ ap (λ bs. before ++ bs) (sym is)

-- a command is one of the table, and has its rows
pub in_table_of : (old : PageWatch) (new : JobReader) (answer : HeardState) (command : Command) (now more : List ℕ)
    → answer ≡ heard.One command → Hears old new answer more → Watched old now
    → (in_table command ≡ true) × (length (rows_of new) ≡ rows_len command)
in_table_of old new answer command now more is hears watched =
    let told : HeardOne (begin_of old.reader) command new (watched.part ++ more) =
    hears_behind old new answer (heard.One command) now more watched is hears in
    (told.spelled.in_range, told.spelled.rows_fit)

-- where no command ended
pub reads_part : (telling : Telling) (old new : PageWatch) (before front more all : List ℕ) (answer : HeardState) → answer ≡ heard.More
    → all ≡ front ++ more → tally_of new ≡ tally_of old → is_failed_of new.reader ≡ false → Hears old new.reader answer more
    → ReadsOn telling old before (before ++ front) → ReadsOn telling new before (before ++ all)
reads_part telling old new before front more all answer is grown same is_open hears so_far =
    let now : List ℕ = before ++ front in
    let next = part_more old new now more so_far.watched
    (hears_behind old new.reader answer heard.More now more so_far.watched is hears) same is_open in
    reads_as telling new before (now ++ more) (before ++ all) (grown_by before front more all grown)
    (record { watched = next.0; quiet = grows_same telling before now (now ++ more) next.1 so_far.quiet })

-- where a command ended
reads_one : (telling : Telling) (old new : PageWatch) (before front more all : List ℕ) (answer : HeardState) (command : Command)
    → answer ≡ heard.One command → all ≡ front ++ more → tally_of new ≡ tally_after (tally_of old) command (rows_of new.reader)
    → is_failed_of new.reader ≡ false → Hears old new.reader answer more
    → ReadsOn telling old before (before ++ front) → MoreBy new (before ++ front) (before ++ all) command
reads_one telling old new before front more all answer command is grown counted is_open hears so_far =
    let now : List ℕ = before ++ front in
    let P : List ℕ → Type 0 = λ bs. MoreBy new now bs command in
    subst P (grown_by before front more all grown) (one_more old new now more command so_far.watched
    (hears_behind old new.reader answer (heard.One command) now more so_far.watched is hears) counted is_open)

-- where a command ended that is not of interest
pub reads_quiet : (telling : Telling) (old new : PageWatch) (before front more all : List ℕ) (answer : HeardState) (command : Command)
    → answer ≡ heard.One command → all ≡ front ++ more → tally_of new ≡ tally_after (tally_of old) command (rows_of new.reader)
    → is_failed_of new.reader ≡ false → Hears old new.reader answer more → is_due telling command ≡ false
    → ReadsOn telling old before (before ++ front) → ReadsOn telling new before (before ++ all)
reads_quiet telling old new before front more all answer command is grown counted is_open hears idle so_far =
    let one = reads_one telling old new before front more all answer command is grown counted is_open hears so_far in
    record {
      watched = one.watched;
      quiet = grows_one telling before (before ++ front) (before ++ all) one.entry one.grow (ap (is_due telling) one.is ∙ idle) so_far.quiet;
    }

-- at an event
pub reads_event : (telling : Telling) (old new : PageWatch) (before front more all : List ℕ) (answer : HeardState) (command : Command)
    → answer ≡ heard.One command → all ≡ front ++ more → tally_of new ≡ tally_after (tally_of old) command (rows_of new.reader)
    → is_failed_of new.reader ≡ false → Hears old new.reader answer more → is_due telling command ≡ true
    → ReadsOn telling old before (before ++ front)
    → Watched new (before ++ all) × EndsWith (record { before = tally_of old; command = command }) telling before (before ++ all)
reads_event telling old new before front more all answer command is grown counted is_open hears due so_far =
    let one = reads_one telling old new before front more all answer command is grown counted is_open hears so_far in
    let event : Event = record { before = tally_of old; command = command } in
    (one.watched, ends_with telling event old new before (before ++ front) (before ++ all) so_far one refl due)

-- at a fault
pub reads_fault : (telling : Telling) (old new : PageWatch) (before front more all : List ℕ) (answer : HeardState) (offset : ℕ) (cause : JobCause)
    → answer ≡ heard.Fault offset cause → all ≡ front ++ more → tally_of new ≡ tally_of old → Hears old new.reader answer more
    → ReadsOn telling old before (before ++ front) → HasFault new (before ++ all) offset cause × GrowsQuietly telling before (before ++ all)
reads_fault telling old new before front more all answer offset cause is grown same hears so_far =
    let now : List ℕ = before ++ front in
    let P : List ℕ → Type 0 = λ bs. HasFault new bs offset cause × GrowsQuietly telling before bs in
    let next = fault_more old new now more offset cause so_far.watched
    (hears_behind old new.reader answer (heard.Fault offset cause) now more so_far.watched is hears) same in
    subst P (grown_by before front more all grown) (next.0, grows_same telling before now (now ++ more) next.1 so_far.quiet)

-- ---- where the last whole command ends

-- an end within a piece is one before a later place
pub ends_later : (whole : Option ℕ) (at later : ℕ) → at ≤ later → IfSome whole (λ end. end ≤ at) → IfSome whole (λ end. end ≤ later)
ends_later None at later first ends = tt
ends_later (Some end) at later first ends = omega (arith, first, ends)

-- the whole commands stay
ends_kept : (whole : Option ℕ) (before front more all : List ℕ) → all ≡ front ++ more → IfSome whole (λ end. end ≤ length front)
    → whole_commands (before ++ all) ≡ whole_commands (before ++ front) → EndsWhole whole before front → EndsWhole whole before all
ends_kept None before front more all grown within kept ends = kept ∙ ends
ends_kept (Some end) before front more all grown within kept ends =
    kept ∙ ends ∙ ap (λ bs. before ++ bs) (sym (ap (take end) grown ∙ take-append-le end front more within))

-- nothing was read
pub whole_none : (before : List ℕ) → EndsWhole None before []
whole_none before = ap whole_commands (append-nil before)

-- no command ended
pub whole_part : (telling : Telling) (old : PageWatch) (new : JobReader) (whole : Option ℕ) (before front more all : List ℕ) (answer : HeardState)
    → answer ≡ heard.More → all ≡ front ++ more → Hears old new answer more → IfSome whole (λ end. end ≤ length front)
    → ReadsOn telling old before (before ++ front) → EndsWhole whole before front → EndsWhole whole before all
whole_part telling old new whole before front more all answer is grown hears within so_far ends =
    let now : List ℕ = before ++ front in
    let P : List ℕ → Type 0 = λ bs. whole_commands bs ≡ whole_commands now in
    let told : HeardMore (begin_of old.reader) new (so_far.watched.part ++ more) =
    hears_behind old new answer heard.More now more so_far.watched is hears in
    ends_kept whole before front more all grown within
    (subst P (grown_by before front more all grown) (part_keeps old now more so_far.watched told.part)) ends

-- a fault was met
pub whole_fault : (telling : Telling) (old : PageWatch) (new : JobReader) (whole : Option ℕ) (before front more all : List ℕ) (answer : HeardState)
    (offset : ℕ) (cause : JobCause) → answer ≡ heard.Fault offset cause → all ≡ front ++ more → Hears old new answer more
    → IfSome whole (λ end. end ≤ length front) → ReadsOn telling old before (before ++ front) → EndsWhole whole before front
    → EndsWhole whole before all
whole_fault telling old new whole before front more all answer offset cause is grown hears within so_far ends =
    let now : List ℕ = before ++ front in
    let P : List ℕ → Type 0 = λ bs. whole_commands bs ≡ whole_commands now in
    let tail : List ℕ = so_far.watched.part ++ more in
    let told : HeardFault (begin_of old.reader) offset cause new tail =
    hears_behind old new answer (heard.Fault offset cause) now more so_far.watched is hears in
    ends_kept whole before front more all grown within
    (subst P (grown_by before front more all grown)
    (wrong_keeps old now more (offset - begin_of old.reader) cause so_far.watched
    (ap command_at (sym (append-nil tail)) ∙ told.wrong []))) ends

-- a command ended
pub whole_one : (telling : Telling) (old new : PageWatch) (before front more all : List ℕ) (end : ℕ) (answer : HeardState) (command : Command)
    → answer ≡ heard.One command → all ≡ front ++ more → tally_of new ≡ tally_after (tally_of old) command (rows_of new.reader)
    → is_failed_of new.reader ≡ false → Hears old new.reader answer more
    → ReadsOn telling old before (before ++ front) → end ≡ length all → EndsWhole (Some end) before all
whole_one telling old new before front more all end answer command is grown counted is_open hears so_far ends =
    let one = reads_one telling old new before front more all answer command is grown counted is_open hears so_far in
    one.whole ∙ ap (λ bs. before ++ bs) (sym (take_all end all (omega (arith, ends))))
