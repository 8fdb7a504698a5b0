-- What was fed of a job, command by command.
use Rattle.std.proofs.Common.{◌≡◌, ℕ, ◌+◌, ◌-◌, false, List, [], ◌∷◌, ◌++◌, length}
use Rattle.std.proofs.Common.{refl, sym, ◌∙◌, ap, arith, append_assoc, append-nil, length-append}
use Rattle.std.proofs.lemmas.List.{drop_all}
use Rattle.escp2_definitions.specs.declared.command.Command.{Command}
use Rattle.escp2_definitions.specs.declared.stops.JobCause.{JobCause}
use Rattle.escp2_definitions.specs.Commands.{CommandList, Entry, command_at, commands, commands_from}
use Rattle.escp2_definitions.specs.Commands.Heard.{One, Part, Wrong}
use Rattle.escp2_definitions.specs.Commands.ListEnd.{Fault}
use Rattle.escp2_laws.proofs.Jobs.{step}
use Rattle.escp2_laws.proofs.Stands.{after, first-of}
use Rattle.escp2_reader.specs.Jobs.{commands_behind, with_entries}
use Rattle.escp2_reader.specs.Reading.{HeardFault, HeardMore, HeardOne, StandsFor, begin_of, is_failed_of, rows_of}
use Rattle.finish_definitions.proofs.WholeCommands.{whole-before, whole-first, whole-part, whole-stays, whole-wrong}
use Rattle.finish_definitions.specs.Finished.{whole_commands, whole_from}
use Rattle.page_tally.specs.Tallies.{no_tally, tally_after, tally_from}
use Rattle.page_watch.specs.declared.watch.PageWatch.{PageWatch}
use Rattle.page_watch.specs.Watching.{HasFault, Watched, fed_to, tally_of}
use Rattle.page_watch.proofs.Told.{tally_more}

-- ---- bytes behind whole commands

-- bytes with more behind them, from the end of their whole commands on
split_more : (bytes part more : List ℕ) → bytes ≡ whole_commands bytes ++ part → bytes ++ more ≡ whole_commands bytes ++ (part ++ more)
split_more bytes part more behind = ap (λ bs. bs ++ more) behind ∙ append_assoc (whole_commands bytes) part more

-- a part of a command is no command
part_entries : (at : ℕ) (bytes : List ℕ) → command_at bytes ≡ Part → (commands_behind at bytes).entries ≡ []
unfolding commands_from
part_entries at [] part = refl
part_entries at (b ∷ bytes) part =
    ap (λ (l : CommandList). l.entries) (first-of (length bytes) at b bytes ∙ ap (λ h. after h (length bytes) at (b ∷ bytes)) part)

-- a whole command with nothing behind it
one_entry : (at : ℕ) (bytes : List ℕ) (command : Command) (rows : List ℕ)
    → ((more : List ℕ) → command_at (bytes ++ more) ≡ One command rows (length bytes))
    → (commands_behind at bytes).entries ≡ record { at = at; command = command; rows = rows } ∷ []
unfolding commands_from command_at
one_entry at [] command rows one = absurd (let no : Part ≡ One command rows 0 = one [] in cc)
one_entry at (b ∷ bytes) command rows one =
    let len : ℕ = length (b ∷ bytes) in
    let entry : Entry = record { at = at; command = command; rows = rows } in
    let here : command_at (b ∷ bytes) ≡ One command rows len = ap command_at (sym (append-nil (b ∷ bytes))) ∙ one [] in
    ap (λ (l : CommandList). l.entries) (step (length bytes) at (b ∷ bytes) command rows len here)
    ∙ ap (λ bs. entry ∷ (commands_from (length bytes) (at + len) bs).entries) (drop_all len (b ∷ bytes) (omega arith))

-- a fault
wrong_list : (at place : ℕ) (cause : JobCause) (bytes : List ℕ) → command_at bytes ≡ Wrong place cause
    → commands_behind at bytes ≡ record { entries = []; end = Fault (at + place) cause }
unfolding command_at
wrong_list at place cause [] wrong = absurd (let no : Part ≡ Wrong place cause = wrong in cc)
wrong_list at place cause (b ∷ bytes) wrong =
    first-of (length bytes) at b bytes ∙ ap (λ h. after h (length bytes) at (b ∷ bytes)) wrong

-- the commands of bytes, and of others from the end of their whole commands on
read_behind : (bytes tail later : List ℕ) → later ≡ whole_commands bytes ++ tail
    → commands later ≡ with_entries (commands bytes).entries (commands_behind (length (whole_commands bytes)) tail)
read_behind bytes tail later is = ap commands is ∙ whole-before bytes tail

-- and their whole commands
kept_behind : (bytes tail later : List ℕ) → later ≡ whole_commands bytes ++ tail
    → whole_commands later ≡ whole_commands bytes ++ whole_commands tail
kept_behind bytes tail later is = ap whole_commands is ∙ whole-stays bytes tail

-- a part of a command makes no more of them whole
pub part_keeps : (watch : PageWatch) (sofar more : List ℕ) (watched : Watched watch sofar) → command_at (watched.part ++ more) ≡ Part
    → whole_commands (sofar ++ more) ≡ whole_commands sofar
part_keeps watch sofar more watched part =
    let tail : List ℕ = watched.part ++ more in
    kept_behind sofar tail (sofar ++ more) (split_more sofar watched.part more watched.behind)
    ∙ ap (λ bs. whole_commands sofar ++ bs) (whole-part tail part) ∙ append-nil (whole_commands sofar)

-- nor does a fault
pub wrong_keeps : (watch : PageWatch) (sofar more : List ℕ) (place : ℕ) (cause : JobCause) (watched : Watched watch sofar)
    → command_at (watched.part ++ more) ≡ Wrong place cause → whole_commands (sofar ++ more) ≡ whole_commands sofar
wrong_keeps watch sofar more place cause watched wrong =
    let tail : List ℕ = watched.part ++ more in
    kept_behind sofar tail (sofar ++ more) (split_more sofar watched.part more watched.behind)
    ∙ ap (λ bs. whole_commands sofar ++ bs) (whole-wrong tail place cause wrong) ∙ append-nil (whole_commands sofar)

-- nothing is kept of nothing
none_kept : whole_commands [] ≡ []
unfolding whole_from
none_kept = refl

-- ---- at the first byte

pub watched_none : (watch : PageWatch) → StandsFor watch.reader [] → fed_to watch ≡ 0 → is_failed_of watch.reader ≡ false
    → tally_of watch ≡ no_tally → Watched watch []
unfolding command_at commands_from
watched_none watch stands fed is_open none =
    record { part = []; behind = sym (ap (λ bs. bs ++ []) none_kept); part_is = refl; tally_is = none; fed_is = fed; stands = stands; is_open = is_open }

-- ---- a command more

-- no command ended
pub part_more : (old new : PageWatch) (sofar more : List ℕ) (watched : Watched old sofar)
    → HeardMore (begin_of old.reader) new.reader (watched.part ++ more) → tally_of new ≡ tally_of old → is_failed_of new.reader ≡ false
    → Watched new (sofar ++ more) × ((commands (sofar ++ more)).entries ≡ (commands sofar).entries)
part_more old new sofar more watched told same is_open =
    let done : List ℕ = whole_commands sofar in
    let tail : List ℕ = watched.part ++ more in
    let later : List ℕ = sofar ++ more in
    let split : later ≡ done ++ tail = split_more sofar watched.part more watched.behind in
    let whole : whole_commands later ≡ done = kept_behind sofar tail later split
    ∙ ap (λ bs. done ++ bs) (whole-part tail told.part) ∙ append-nil done in
    let entries : (commands later).entries ≡ (commands sofar).entries = ap (λ (l : CommandList). l.entries) (read_behind sofar tail later split)
    ∙ ap (λ es. (commands sofar).entries ++ es) (part_entries (length done) tail told.part)
    ∙ append-nil (commands sofar).entries in (
      record {
        part = tail;
        behind = split ∙ ap (λ bs. bs ++ tail) (sym whole);
        part_is = told.part;
        tally_is = same ∙ watched.tally_is ∙ ap (tally_from no_tally) (sym entries);
        fed_is = omega (
          arith,
          told.stands.fed,
          told.begins,
          watched.stands.fed,
          watched.fed_is,
          length-append watched.part more,
          length-append sofar more,
        );
        stands = told.stands;
        is_open = is_open;
      },
      entries,
    )

-- A command ended.
pub record MoreBy (new : PageWatch) (sofar later : List ℕ) (command : Command) : Type 0 where
  pub watched : Watched new later
  pub whole : whole_commands later ≡ later
  pub entry : Entry
  pub is : entry.command ≡ command
  pub grow : (commands later).entries ≡ (commands sofar).entries ++ entry ∷ []

pub one_more : (old new : PageWatch) (sofar more : List ℕ) (command : Command) (watched : Watched old sofar)
    → HeardOne (begin_of old.reader) command new.reader (watched.part ++ more)
    → tally_of new ≡ tally_after (tally_of old) command (rows_of new.reader) → is_failed_of new.reader ≡ false
    → MoreBy new sofar (sofar ++ more) command
unfolding command_at commands_from
one_more old new sofar more command watched told counted is_open =
    let done : List ℕ = whole_commands sofar in
    let tail : List ℕ = watched.part ++ more in
    let later : List ℕ = sofar ++ more in
    let rows : List ℕ = rows_of new.reader in
    let entry : Entry = record { at = length done; command = command; rows = rows } in
    let split : later ≡ done ++ tail = split_more sofar watched.part more watched.behind in
    let kept : whole_commands tail ≡ tail = ap whole_commands (sym (append-nil tail)) ∙ whole-first tail [] command rows told.whole
    ∙ ap (λ bs. tail ++ bs) none_kept ∙ append-nil tail in
    let whole : whole_commands later ≡ later = kept_behind sofar tail later split ∙ ap (λ bs. done ++ bs) kept ∙ sym split in
    let grow : (commands later).entries ≡ (commands sofar).entries ++ entry ∷ [] =
    ap (λ (l : CommandList). l.entries) (read_behind sofar tail later split)
    ∙ ap (λ es. (commands sofar).entries ++ es) (one_entry (length done) tail command rows told.whole) in
    record {
      watched = record {
        part = [];
        behind = sym whole ∙ sym (append-nil (whole_commands later));
        part_is = refl;
        tally_is = counted ∙ ap (λ t. tally_after t command rows) watched.tally_is
            ∙ sym (ap (tally_from no_tally) grow ∙ tally_more no_tally (commands sofar).entries entry);
        fed_is = omega (
          arith,
          told.stands.fed,
          told.begins,
          watched.stands.fed,
          watched.fed_is,
          length-append watched.part more,
          length-append sofar more,
        );
        stands = told.stands;
        is_open = is_open;
      };
      whole = whole;
      entry = entry;
      is = refl;
      grow = grow;
    }

-- a fault
pub fault_more : (old new : PageWatch) (sofar more : List ℕ) (offset : ℕ) (cause : JobCause) (watched : Watched old sofar)
    → HeardFault (begin_of old.reader) offset cause new.reader (watched.part ++ more) → tally_of new ≡ tally_of old
    → HasFault new (sofar ++ more) offset cause × ((commands (sofar ++ more)).entries ≡ (commands sofar).entries)
fault_more old new sofar more offset cause watched told same =
    let done : List ℕ = whole_commands sofar in
    let tail : List ℕ = watched.part ++ more in
    let later : List ℕ = sofar ++ more in
    let place : ℕ = offset - begin_of old.reader in
    let at : length done + place ≡ offset =
    omega (arith, told.behind, watched.stands.fed, watched.fed_is, ap length watched.behind, length-append done watched.part) in
    let list : CommandList = record { entries = (commands sofar).entries; end = Fault (length done + place) cause } in
    let split : later ≡ done ++ tail = split_more sofar watched.part more watched.behind in
    let grown : (rest : List ℕ) → later ++ rest ≡ done ++ (tail ++ rest) = λ rest. ap (λ bs. bs ++ rest) split ∙ append_assoc done tail rest in
    let reads : (rest : List ℕ) → commands (later ++ rest) ≡ list = λ rest.
    read_behind sofar (tail ++ rest) (later ++ rest) (grown rest)
    ∙ ap (with_entries (commands sofar).entries) (wrong_list (length done) place cause (tail ++ rest) (told.wrong rest))
    ∙ ap (λ es. record { entries = es; end = Fault (length done + place) cause }) (append-nil (commands sofar).entries) in
    let keeps : (rest : List ℕ) → whole_commands (later ++ rest) ≡ done = λ rest.
    kept_behind sofar (tail ++ rest) (later ++ rest) (grown rest)
    ∙ ap (λ bs. done ++ bs) (whole-wrong (tail ++ rest) place cause (told.wrong rest)) ∙ append-nil done in
    let here : commands later ≡ list = ap commands (sym (append-nil later)) ∙ reads [] in
    let here_kept : whole_commands later ≡ done = ap whole_commands (sym (append-nil later)) ∙ keeps [] in
    let entries : (commands later).entries ≡ (commands sofar).entries = ap (λ (l : CommandList). l.entries) here in (
      record {
        fault = ap (λ (l : CommandList). l.end) here ∙ ap (λ n. Fault n cause) at;
        stays = λ rest. reads rest ∙ sym here;
        whole_stays = λ rest. keeps rest ∙ sym here_kept;
        tally_is = same ∙ watched.tally_is ∙ ap (tally_from no_tally) (sym entries);
      },
      entries,
    )
