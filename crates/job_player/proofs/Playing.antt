-- The sheets of the commands that a feed gave.
use Rattle.std.proofs.Common.{◌≡◌, ℕ, ◌+◌, ◌-◌, ◌≤◌, ◌^◌, min, List, Option, Some, None, IfSome, IfNone, Err, Ok, [], ◌∷◌, ◌++◌}
use Rattle.std.proofs.Common.{length, length-append, refl, sym, ◌∙◌, ap, subst, arith, append-nil}
use Rattle.std.proofs.lemmas.List.Concat.{flat_map-append}
use Rattle.std.specs.Io.KnownBytes.{Appends, Consumes}
use Rattle.std.proofs.KnownBytes.{Appends-nil, Appends-trans, Consumes-nil}
use Rattle.buffered_bytes.specs.Outside.{Outside}
use Rattle.dot_emulator.specs.declared.emulator.EmulatorStop.{EmulatorStop}
use Rattle.dot_emulator.specs.declared.emulator.EmulatorStop.TheVariants as emulator
use Rattle.dot_emulator.specs.declared.emulator.Emulator.{Emulator}
use Rattle.dot_emulator.specs.declared.sheet.Sheet.{Sheet}
use Rattle.dot_emulator.specs.Runs.{Emulates, IsSheet, Runs}
use Rattle.escp2_definitions.specs.declared.stops.EmulatorFault.{EmulatorFault}
use Rattle.escp2_definitions.specs.declared.stops.JobStop.TheVariants as job
use Rattle.escp2_definitions.specs.Commands.{Entry}
use Rattle.escp2_definitions.specs.JobEnds.{Stopped, job_end}
use Rattle.escp2_definitions.specs.Machine.{Machine, Sheet as PrintedSheet, after, execute, execute_from, given, start}
use Rattle.escp2_reader.specs.declared.feed.FeedStop.{FeedStop}
use Rattle.escp2_reader.specs.declared.feed.FeedStop.TheVariants as feed_is
use Rattle.escp2_reader.specs.declared.feed.JobFeed.{JobFeed}
use Rattle.escp2_reader.specs.declared.feed.PlacedCommand.{PlacedCommand}
use Rattle.escp2_reader.specs.Feeding.{HasEnded, IsStopped, TakesCommand, at_of, heard_of, most_of, text_of, unread_of}
use Rattle.escp2_reader.specs.Jobs.{JobMayGoOn, TakesCommands}
use Rattle.escp2_reader.proofs.Jobs.{GaveCommands, commands_none, ends_whole, entry_of, gave_first, gave_more, gave_none, job_ended}
use Rattle.escp2_reader.proofs.Jobs.{job_refused, rose_within, takes_all, takes_gave}
use Rattle.job_player.specs.declared.player.PlayStop.{PlayStop}
use Rattle.job_player.specs.declared.player.PlayStop.TheVariants as stop
use Rattle.job_player.specs.Outcome.{PlayResult, PlaysAll, PlaysTaken, TakesSheets, sheet_number, sheets_of}
use Rattle.job_player.specs.Pictures.{images, sheet_images, table_images}
use Rattle.job_player.specs.Stops.{emulator_stop, feed_stop}
use Rattle.job_player.proofs.Images.{images_are}
use Rattle.job_player.proofs.Running.{Executes, executes_more, executes_none, sheets_more, stops_as_bytes, stops_at_refusal}
use Rattle.printer_definitions.specs.Printer.{Printer}
use Rattle.weave_base.specs.Causes.{Rose}
use Rattle.weave_base.specs.Parts.{AppendsPart}

-- The commands that were given were run on the machine; these are the sheets that they gave.
pub record RunsSoFar (p : Printer)
    (e : Emulator) (feed : JobFeed) (before text : Option (List ℕ)) (sheets : List PrintedSheet) : Type 0 where
  pub entries : List Entry
  pub gave : GaveCommands feed before text entries
  pub m : Machine
  pub executes : Executes p entries m sheets
  pub shows : Emulates p e m

-- And their images were written.
pub record PlaysSoFar (p : Printer) (e : Emulator) (feed : JobFeed) (before text held now : Option (List ℕ)) (number : ℕ) : Type 0 where
  pub sheets : List PrintedSheet
  pub runs : RunsSoFar p e feed before text sheets
  pub writes : Appends held now (images p sheets)
  pub number_is : number ≡ sheet_number (length sheets)

pub plays_none : (p : Printer) (e : Emulator) (feed : JobFeed) (left held : Option (List ℕ))
    → at_of feed ≡ 0 → feed.unread ≡ [] → Emulates p e start
    → PlaysSoFar p e feed left (text_of feed left) held held 0
plays_none p e feed left held at unread shows = record {
  sheets = [];
  runs = record { entries = []; gave = gave_none feed left at unread; m = start; executes = executes_none p start; shows = shows };
  writes = Appends-nil held;
  number_is = refl;
}

-- ---- a command

-- it was run
ran : (p : Printer) (e e' : Emulator) (old new : JobFeed)
    (before text left : Option (List ℕ)) (placed : PlacedCommand) (sheets : List PrintedSheet) (sheet : Option Sheet)
    (so_far : RunsSoFar p e old before text sheets) → TakesCommand old new text (text_of new left) placed
    → Runs p so_far.m placed.command (heard_of new) e e' (Ok sheet)
    → RunsSoFar p e' new before (text_of new left) (sheets ++ given p so_far.m placed.command)
ran p e e' old new before text left placed sheets sheet so_far takes runs = record {
  entries = so_far.entries ++ entry_of new placed ∷ [];
  gave = gave_more old new before text (text_of new left) so_far.entries placed so_far.gave takes;
  m = after p so_far.m placed.command (heard_of new);
  executes = executes_more p start so_far.entries (entry_of new placed) so_far.m sheets so_far.executes runs.0;
  shows = runs.2;
}

-- it gave no sheet
pub plays_more : {p : Printer} {e e' : Emulator}
    {old new : JobFeed} {before text : Option (List ℕ)} (left : Option (List ℕ)) {held now : Option (List ℕ)} {number : ℕ} (placed : PlacedCommand)
    (so_far : PlaysSoFar p e old before text held now number) → TakesCommand old new text (text_of new left) placed
    → Runs p so_far.runs.m placed.command (heard_of new) e e' (Ok None) → PlaysSoFar p e' new before (text_of new left) held now number
plays_more {p} {e} {e'} {old} {new} {before} {text} left placed so_far takes runs =
    let all = ran p e e' old new before text left placed so_far.sheets None so_far.runs takes runs in
    let P : List PrintedSheet → Type 0 = λ more. RunsSoFar p e' new before (text_of new left) (so_far.sheets ++ more) in
    let Q : List PrintedSheet → Type 0 = RunsSoFar p e' new before (text_of new left) in
    record {
      sheets = so_far.sheets;
      runs = subst Q (append-nil so_far.sheets) (subst P runs.1 all);
      writes = so_far.writes;
      number_is = so_far.number_is;
    }

-- It gave a sheet, whose images are to be written.
pub record HasSheet (p : Printer) (e : Emulator)
    (feed : JobFeed) (before text held now : Option (List ℕ)) (number : ℕ) (sheet : Sheet) : Type 0 where
  pub sheets : List PrintedSheet
  pub printed : PrintedSheet
  pub runs : RunsSoFar p e feed before text (sheets ++ printed ∷ [])
  pub writes : Appends held now (images p sheets)
  pub number_is : number ≡ sheet_number (length sheets)
  pub is : IsSheet p printed sheet

pub gives_sheet : {p : Printer} {e e' : Emulator} {old new : JobFeed}
    {before text : Option (List ℕ)} (left : Option (List ℕ)) {held now : Option (List ℕ)} {number : ℕ} (placed : PlacedCommand)
    (rows : List ℕ) (some : Option Sheet) (sheet : Sheet)
    (so_far : PlaysSoFar p e old before text held now number) → TakesCommand old new text (text_of new left) placed
    → ((m : Machine) → Emulates p e m → Runs p m placed.command rows e e' (Ok some)) → rows ≡ heard_of new → some ≡ Some sheet
    → HasSheet p e' new before (text_of new left) held now number sheet
gives_sheet {p} {e} {e'} {old} {new} {before} {text} left placed rows some sheet so_far takes runs_on heard is =
    let runs = rw is at (rw heard at (runs_on so_far.runs.m so_far.runs.shows)) in
    let all = ran p e e' old new before text left placed so_far.sheets (Some sheet) so_far.runs takes runs in
    let gives = runs.1 in
    let P : List PrintedSheet → Type 0 = λ more. RunsSoFar p e' new before (text_of new left) (so_far.sheets ++ more) in
    record {
      sheets = so_far.sheets;
      printed = gives.0;
      runs = subst P gives.1 all;
      writes = so_far.writes;
      number_is = so_far.number_is;
      is = gives.2;
    }

counts_on : (n number : ℕ) → number ≡ sheet_number n → min (number + 1) (2 ^ 32 - 1) ≡ sheet_number (n + 1)
counts_on n number is = omega (arith, is)

pub sheet_written : {p : Printer} {e : Emulator} {feed : JobFeed} {before text held now now' : Option (List ℕ)}
    {number more : ℕ} (sheet : Sheet) → HasSheet p e feed before text held now number sheet
    → Appends now now' (table_images sheet.columns sheet.rows sheet.planes)
    → more ≡ min (number + 1) (2 ^ 32 - 1) → PlaysSoFar p e feed before text held now' more
sheet_written {p} {held} {now} {now'} {number} sheet has written more_is =
    let P : List ℕ → Type 0 = Appends now now' in
    let Q : List ℕ → Type 0 = Appends held now' in
    record {
      sheets = has.sheets ++ has.printed ∷ [];
      runs = has.runs;
      writes = subst Q (sym (flat_map-append (sheet_images p) has.sheets (has.printed ∷ [])
          ∙ ap (λ bs. images p has.sheets ++ bs) (append-nil (sheet_images p has.printed))))
          (Appends-trans held now now' (images p has.sheets)
          (sheet_images p has.printed) has.writes (subst P (images_are p has.printed sheet has.is) written));
      number_is = more_is ∙ counts_on (length has.sheets) number has.number_is
          ∙ ap sheet_number (sym (length-append has.sheets (has.printed ∷ [])));
    }

-- its planes were handed back
pub kept_back : {p : Printer} {e e' : Emulator} {feed : JobFeed} {before text held now : Option (List ℕ)} {number : ℕ}
    → PlaysSoFar p e feed before text held now number → ((m : Machine) → Emulates p e m → Emulates p e' m)
    → PlaysSoFar p e' feed before text held now number
kept_back so_far shows = record {
  sheets = so_far.sheets;
  runs = record {
    entries = so_far.runs.entries;
    gave = so_far.runs.gave;
    m = so_far.runs.m;
    executes = so_far.runs.executes;
    shows = shows so_far.runs.m so_far.runs.shows;
  };
  writes = so_far.writes;
  number_is = so_far.number_is;
}

-- ---- how playing ends

takes_sheets : (p : Printer) (most : ℕ) (before now : Option (List ℕ))
    (entries : List Entry) (m : Machine) (sheets : List PrintedSheet) → Executes p entries m sheets
    → TakesCommands most before now entries → TakesSheets p most before now sheets
takes_sheets p most before now entries m sheets executes takes = record {
  bytes = takes.bytes;
  taken = takes.taken;
  others = (execute_from p m takes.others).sheets;
  are = ap (λ es. (execute p es).sheets) takes.are ∙ sheets_more p entries takes.others m sheets executes;
}

mapped : (before : Option (List ℕ)) (P Q : List ℕ → Type 0) → ((bytes : List ℕ) → P bytes → Q bytes) → IfSome before P → IfSome before Q
mapped None P Q f holds = tt
mapped (Some bytes) P Q f holds = f bytes holds

pub sheet_unwritten : {p : Printer} (most : ℕ) {e : Emulator}
    (feed : JobFeed) {before left held now now' : Option (List ℕ)} {number more f0 f1 g0 g1 g2 : ℕ} (sheet : Sheet)
    → HasSheet p e feed before (text_of feed left) held now number sheet
    → AppendsPart now now' (table_images sheet.columns sheet.rows sheet.planes) → more ≡ min (number + 1) (2 ^ 32 - 1)
    → most_of feed ≡ most → g0 ≤ g1 → Rose g1 g2
    → PlayResult p most (record { before = before; now = left; faults_before = f0; faults_now = f1 })
    (record { before = held; now = now'; faults_before = g0; faults_now = g2 }) (Err (stop.Write more))
sheet_unwritten {p} most feed {before} {left} {now} {now'} {number} {g0} {g1} {g2} sheet has part more_is most_is later rose =
    let P : List ℕ → Type 0 = AppendsPart now now' in
    let Q : ℕ → Type 0 = λ n. TakesSheets p n before left (has.sheets ++ has.printed ∷ []) in (
      rose_within g0 g1 g2 g2 later rose (omega arith),
      record {
        sheets = has.sheets;
        sheet = has.printed;
        takes = subst Q most_is (takes_sheets p
            (most_of feed) before left has.runs.entries has.runs.m (has.sheets ++ has.printed ∷ []) has.runs.executes
            (takes_gave feed feed before (text_of feed left) left has.runs.entries [] has.runs.gave (Consumes-nil (text_of feed left))));
        number_is = more_is ∙ counts_on (length has.sheets) number has.number_is;
        between = now;
        whole = has.writes;
        part = subst P (images_are p has.printed sheet has.is) part;
      },
    )

pub plays_all : {p : Printer} (most : ℕ) {e : Emulator} (feed new : JobFeed) {before text left held now : Option (List ℕ)} {number f0 f1 g0 g1 : ℕ} → PlaysSoFar p e feed before text held now number
    → HasEnded text (text_of new left) → most_of feed ≡ most
    → PlaysAll p most (record { before = before; now = left; faults_before = f0; faults_now = f1 })
    (record { before = held; now = now; faults_before = g0; faults_now = g1 })
plays_all {p} most feed new {before} {text} {left} {held} {now} {f0} {f1} {g0} {g1} so_far ended most_is =
    let takes = job_ended feed new before text left so_far.runs.entries so_far.runs.gave ended in
    let stops = stops_as_bytes p (most_of feed)
    takes.bytes so_far.runs.entries so_far.runs.m so_far.sheets None so_far.runs.executes takes.ends in
    let P : ℕ → Type 0 = λ n. PlaysAll p n (record {
      before = before;
      now = left;
      faults_before = f0;
      faults_now = f1;
    }) (record { before = held; now = now; faults_before = g0; faults_now = g1 }) in
    let Q : List PrintedSheet → Type 0 = λ sheets. Appends held now (images p sheets) in
    subst P most_is (record {
      bytes = takes.bytes;
      taken = takes.taken;
      end = takes.end;
      whole = stops.1;
      writes = subst Q (sym stops.0) so_far.writes;
    })

pub plays_to_stop : (p : Printer) (most : ℕ) (e : Emulator)
    (feed new : JobFeed) (before text left held now : Option (List ℕ)) (number f0 f1 f2 g0 g1 : ℕ) (why : FeedStop)
    → PlaysSoFar p e feed before text held now number → IsStopped feed text (text_of new left) f1 f2 why
    → (why ≡ feed_is.Read → unread_of new ≡ []) → f0 ≤ f1 → most_of feed ≡ most
    → PlayResult p most (record { before = before; now = left; faults_before = f0; faults_now = f2 })
    (record { before = held; now = now; faults_before = g0; faults_now = g1 }) (Err (feed_stop why))
plays_to_stop p most e feed new before text left held now number f0 f1 f2 g0 g1 (feed_is.Job offset cause) so_far stopped used later most_is =
    let P : ℕ → Type 0 = λ n. IfSome before (λ bytes. (sheets_of p n bytes ≡ so_far.sheets)
    × (job_end bytes n (Some p) ≡ Some (record { at = offset; why = cause }))) in
    record {
      sheets = so_far.sheets;
      told = subst P most_is (mapped before _ _ (λ bytes ends. stops_as_bytes p
          (most_of feed) bytes so_far.runs.entries so_far.runs.m so_far.sheets _ so_far.runs.executes ends)
          (job_refused feed before text (text_of new left) so_far.runs.entries offset cause so_far.runs.gave stopped));
      writes = so_far.writes;
    }
plays_to_stop p most e feed new before text left held now number f0 f1 f2 g0 g1 feed_is.Read so_far failed used later most_is =
    let takes = takes_all feed new before text left so_far.runs.entries failed.bytes so_far.runs.gave failed.takes (used refl) in
    let stops = stops_as_bytes p (most_of feed) takes.bytes so_far.runs.entries so_far.runs.m so_far.sheets
    (job_end takes.bytes (most_of feed) None) so_far.runs.executes (record { are = takes.are; stop_is = refl }) in
    let P : ℕ → Type 0 = λ n. PlaysTaken p n (record { before = before; now = left; faults_before = f0; faults_now = f2 })
    (record { before = held; now = now; faults_before = g0; faults_now = g1 }) in
    let Q : Option Stopped → Type 0 = JobMayGoOn in
    let R : List PrintedSheet → Type 0 = λ sheets. Appends held now (images p sheets) in (
      rose_within f0 f1 f2 f2 later failed.rose (omega arith),
      subst P most_is (record {
        bytes = takes.bytes;
        taken = takes.taken;
        end = subst Q (sym stops.1) takes.end;
        writes = subst R (sym stops.0) so_far.writes;
      }),
    )

-- nothing was taken, and nothing was written
pub plays_untaken : (p : Printer) (most : ℕ) (input out : Outside) → Consumes input.before input.now [] → Appends out.before out.now []
    → PlaysTaken p most input out
plays_untaken p most input out taken appends =
    let stops = stops_as_bytes p most [] [] start [] None (executes_none p start) (ends_whole [] most [] commands_none (omega arith)) in
    let Q : Option Stopped → Type 0 = JobMayGoOn in
    let R : List PrintedSheet → Type 0 = λ sheets. Appends out.before out.now (images p sheets) in record {
      bytes = [];
      taken = taken;
      end = subst Q (sym stops.1) tt;
      writes = subst R (sym stops.0) appends;
    }

-- the machine refuses a command
pub plays_to_refusal : (p : Printer) (most : ℕ) (e e' : Emulator) (old new : JobFeed)
    (before text left held now : Option (List ℕ)) (number f0 f1 g0 g1 : ℕ) (placed : PlacedCommand) (fault : EmulatorFault)
    (so_far : PlaysSoFar p e old before text held now number) → TakesCommand old new text (text_of new left) placed
    → Runs p so_far.runs.m placed.command (heard_of new) e e' (Err (emulator.Refused fault)) → most_of new ≡ most
    → PlayResult p most (record { before = before; now = left; faults_before = f0; faults_now = f1 })
    (record { before = held; now = now; faults_before = g0; faults_now = g1 })
    (Err (stop.Job placed.at (job.Machine fault)))
plays_to_refusal p most e e' old new before text left held now number f0 f1 g0 g1 placed fault so_far takes runs most_is =
    let entry : Entry = entry_of new placed in
    let P : ℕ → Type 0 = λ n. IfSome before (λ bytes. (sheets_of p n bytes ≡ so_far.sheets)
    × (job_end bytes n (Some p) ≡ Some (record { at = placed.at; why = job.Machine fault }))) in
    record {
      sheets = so_far.sheets;
      told = subst P most_is (mapped before _ _ (λ bytes first. stops_at_refusal p (most_of new) bytes
          so_far.runs.entries first.0 entry so_far.runs.m so_far.sheets fault so_far.runs.executes runs.0 first.1)
          (gave_first new before (text_of new left) (so_far.runs.entries ++ entry ∷ [])
          (gave_more old new before text (text_of new left) so_far.runs.entries placed so_far.runs.gave takes)));
      writes = so_far.writes;
    }

-- memory for a sheet runs out
pub plays_without_room : (p : Printer) (most : ℕ) (e : Emulator) (old new : JobFeed)
    (before text left held now : Option (List ℕ)) (number f0 f1 g0 g1 : ℕ) (placed : PlacedCommand)
    → PlaysSoFar p e old before text held now number → TakesCommand old new text (text_of new left) placed → most_of old ≡ most
    → PlayResult p most (record { before = before; now = left; faults_before = f0; faults_now = f1 })
    (record { before = held; now = now; faults_before = g0; faults_now = g1 }) (Err stop.Memory)
plays_without_room p most e old new before text left held now number f0 f1 g0 g1 placed so_far takes most_is =
    let Q : ℕ → Type 0 = λ n. TakesSheets p n before left so_far.sheets in
    record {
      sheets = so_far.sheets;
      takes = subst Q most_is (takes_sheets p (most_of old) before left so_far.runs.entries so_far.runs.m so_far.sheets so_far.runs.executes
          (takes_gave old new before text left so_far.runs.entries takes.bytes so_far.runs.gave takes.taken));
      writes = so_far.writes;
    }

-- memory runs out at the beginning
pub plays_nothing : (p : Printer) (most : ℕ) {left held : Option (List ℕ)} {f0 f1 g0 g1 : ℕ}
    → PlayResult p most (record { before = left; now = left; faults_before = f0; faults_now = f1 })
    (record { before = held; now = held; faults_before = g0; faults_now = g1 }) (Err stop.Memory)
plays_nothing p most {left} {held} = record {
  sheets = [];
  takes = record { bytes = []; taken = Consumes-nil left; others = sheets_of p most []; are = refl };
  writes = Appends-nil held;
}

-- the emulator does not run a command
pub plays_to_emulator_stop : {p : Printer} (most : ℕ) {e : Emulator} (e' : Emulator) (old new : JobFeed)
    {text : Option (List ℕ)} {number : ℕ} (input out : Outside) (placed : PlacedCommand) (why : EmulatorStop) (answer : PlayStop)
    (so_far : PlaysSoFar p e old input.before text out.before out.now number)
    → TakesCommand old new text (text_of new input.now) placed
    → Runs p so_far.runs.m placed.command (heard_of new) e e' (Err why) → most_of old ≡ most
    → answer ≡ emulator_stop placed.at why → PlayResult p most input out (Err answer)
plays_to_emulator_stop {p} most {e} e' old new {text} {number} input out placed why answer so_far takes runs most_is is =
    let P : PlayStop → Type 0 = λ stop. PlayResult p most input out (Err stop) in
    subst P (sym is) (by_stop why runs)
  where
    by_stop : (why : EmulatorStop) → Runs p so_far.runs.m placed.command (heard_of new) e e' (Err why)
        → PlayResult p most input out (Err (emulator_stop placed.at why))
    by_stop (emulator.Refused fault) runs = plays_to_refusal p most e e' old new input.before text input.now out.before out.now number
        input.faults_before input.faults_now out.faults_before out.faults_now placed fault so_far takes runs (takes.most ∙ most_is)
    by_stop emulator.Memory runs = plays_without_room p most e old new input.before text input.now out.before out.now number
        input.faults_before input.faults_now out.faults_before out.faults_now placed so_far takes most_is

-- the feed stops
pub plays_to_feed_stop : {p : Printer} (most : ℕ) {e : Emulator} (feed new : JobFeed) {text : Option (List ℕ)} {number : ℕ}
    (input out : Outside) (faults : ℕ) (why : FeedStop) (answer : PlayStop)
    → PlaysSoFar p e feed input.before text out.before out.now number
    → IsStopped feed text (text_of new input.now) faults input.faults_now why
    → (why ≡ feed_is.Read → unread_of new ≡ []) → input.faults_before ≤ faults
    → most_of feed ≡ most → answer ≡ feed_stop why
    → PlayResult p most input out (Err answer)
plays_to_feed_stop {p} most {e} feed new {text} {number} input out faults why answer so_far stopped used later most_is is =
    let P : PlayStop → Type 0 = λ stop. PlayResult p most input out (Err stop) in
    subst P (sym is) (plays_to_stop p most e feed new input.before text input.now out.before out.now number
    input.faults_before faults input.faults_now out.faults_before out.faults_now why so_far stopped used later most_is)

-- what holds of an option that is none
pub if_none : {T : Type 0} (o : Option T) (P : Type 0) → ((x : T) → o ≡ Some x → ⊥) → IfNone o P → P
if_none None P never holds = holds
if_none (Some x) P never holds = absurd (never x refl)

-- an option that is not some
pub is_none : {T : Type 0} (o : Option T) → ((x : T) → o ≡ Some x → ⊥) → o ≡ None
is_none None never = refl
is_none (Some x) never = absurd (never x refl)
