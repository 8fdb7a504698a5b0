-- What was passed on of a job after a piece.
use Rattle.std.proofs.Common.{◌≡◌, ℕ, ◌+◌, ◌-◌, ◌≤◌, List, [], ◌∷◌, ◌++◌, length, refl, sym, ◌∙◌, ap, subst, arith, append_assoc, append-nil}
use Rattle.std.proofs.Common.{length-append, Err, IfErr, Option, Result, None, Some, false}
use Rattle.std.specs.Io.KnownBytes.{Appends}
use Rattle.buffered_bytes.specs.Outside.{HasRisen, Outside}
use Rattle.escp2_definitions.specs.declared.stops.JobCause.{JobCause}
use Rattle.escp2_definitions.specs.Commands.{CommandList, Entry, command_at, commands, commands_from}
use Rattle.escp2_definitions.specs.Commands.Heard.{Part, Wrong}
use Rattle.escp2_definitions.specs.Commands.ListEnd.{Fault}
use Rattle.escp2_laws.proofs.Stands.{after, first-of}
use Rattle.escp2_reader.specs.declared.reader.JobReader.{JobReader}
use Rattle.escp2_reader.specs.Jobs.{commands_behind, with_entries}
use Rattle.escp2_reader.specs.Reading.{StandsFor, is_failed_of}
use Rattle.finish_definitions.proofs.WholeCommands.{whole-before, whole-part, whole-stays, whole-wrong}
use Rattle.finish_definitions.specs.declared.state.PageState.{PageState}
use Rattle.finish_definitions.specs.declared.state.PageState.TheVariants.{Between}
use Rattle.finish_definitions.specs.Finished.{page_from, whole_commands}
use Rattle.job_finisher.proofs.PartBounds.{part-short}
use Rattle.job_finisher.proofs.Pieces.{made_left, whole_none}
use Rattle.job_finisher.specs.declared.finisher.JobFinisher.{JobFinisher}
use Rattle.job_finisher.specs.declared.finisher.PassStop.{PassStop}
use Rattle.job_finisher.specs.declared.finisher.PassStop.TheVariants as stop
use Rattle.job_finisher.specs.declared.hearing.JobFault.{JobFault}
use Rattle.job_finisher.specs.declared.hearing.PieceHeard.{PieceHeard}
use Rattle.job_finisher.specs.Hearing.{AreWhole, EndsPiece, FaultBehind, StandsAfter, StandsBehind, left_behind, made_whole, most_held}
use Rattle.job_finisher.specs.Passing.{IsPassStop, MeetsFault, Passed, PassesOn, PassesPart, fed_in, in_hand}
use Rattle.weave_base.specs.Parts.{AppendsPart}

-- ---- whole commands, and a part of a command or a fault behind them

-- no command is read of a part of one
part_entries : (at : ℕ) (bytes : List ℕ) → command_at bytes ≡ Part → (commands_behind at bytes).entries ≡ []
unfolding commands_from
part_entries at [] part = refl
part_entries at (b ∷ bytes) part =
    ap (λ (l : CommandList). l.entries) (first-of (length bytes) at b bytes ∙ ap (λ h. after h (length bytes) at (b ∷ bytes)) part)

-- and none of a fault
wrong_list : (at place : ℕ) (cause : JobCause) (bytes : List ℕ) → command_at bytes ≡ Wrong place cause
    → commands_behind at bytes ≡ record { entries = []; end = Fault (at + place) cause }
unfolding command_at
wrong_list at place cause [] wrong = absurd (let no : Part ≡ Wrong place cause = wrong in cc)
wrong_list at place cause (b ∷ bytes) wrong =
    first-of (length bytes) at b bytes ∙ ap (λ h. after h (length bytes) at (b ∷ bytes)) wrong

-- the whole commands of bytes are whole commands, whatever follows
pub whole_are : (bytes : List ℕ) → AreWhole (whole_commands bytes) (commands bytes).entries
whole_are bytes = record { are = record { are = λ rest. whole-before bytes rest }; stay = λ rest. whole-stays bytes rest }

-- before a part of a command they are all whole commands
pub part_whole : (done part : List ℕ) {entries : List Entry} → AreWhole done entries → command_at part ≡ Part → whole_commands (done ++ part) ≡ done
part_whole done part whole part_is = whole.stay part ∙ ap (λ bs. done ++ bs) (whole-part part part_is) ∙ append-nil done

-- and all commands
pub part_commands : (done part : List ℕ) {entries : List Entry} → AreWhole done entries → command_at part ≡ Part
    → (commands (done ++ part)).entries ≡ entries
part_commands done part {entries} whole part_is =
    ap (λ (l : CommandList). l.entries) (whole.are.are part)
    ∙ ap (λ es. entries ++ es) (part_entries (length done) part part_is) ∙ append-nil entries

-- before a fault, whatever follows
wrong_whole : (done bytes rest : List ℕ) (place : ℕ) (cause : JobCause) {entries : List Entry} → AreWhole done entries
    → command_at (bytes ++ rest) ≡ Wrong place cause → whole_commands ((done ++ bytes) ++ rest) ≡ done
wrong_whole done bytes rest place cause whole wrong =
    ap whole_commands (append_assoc done bytes rest) ∙ whole.stay (bytes ++ rest)
    ∙ ap (λ bs. done ++ bs) (whole-wrong (bytes ++ rest) place cause wrong) ∙ append-nil done

wrong_commands : (done bytes rest : List ℕ) (place : ℕ) (cause : JobCause) {entries : List Entry} → AreWhole done entries
    → command_at (bytes ++ rest) ≡ Wrong place cause
    → commands ((done ++ bytes) ++ rest) ≡ record { entries = entries; end = Fault (length done + place) cause }
wrong_commands done bytes rest place cause {entries} whole wrong =
    ap commands (append_assoc done bytes rest) ∙ whole.are.are (bytes ++ rest)
    ∙ ap (with_entries entries) (wrong_list (length done) place cause (bytes ++ rest) wrong)
    ∙ ap (λ es. record { entries = es; end = Fault (length done + place) cause }) (append-nil entries)

-- ---- where a finisher stands

pub stands_passed : (finisher : JobFinisher) (sofar : List ℕ) → Passed finisher sofar
    → StandsBehind finisher.reader finisher.state (whole_commands sofar) (in_hand finisher)
stands_passed finisher sofar passed = record {
  entries = (commands sofar).entries;
  whole = whole_are sofar;
  state_is = passed.state_is;
  part_is = passed.part_is;
  stands = passed.stands;
  is_open = passed.is_open;
  begins = omega (arith, passed.stands.fed, passed.fed_is, ap length passed.behind, length-append (whole_commands sofar) (in_hand finisher));
}

-- the bytes in hand are a part of a command behind whole commands
pub passed_new : (finisher : JobFinisher) (sofar done part : List ℕ) → StandsBehind finisher.reader finisher.state done part
    → in_hand finisher ≡ part → sofar ≡ done ++ part → Passed finisher sofar
passed_new finisher sofar done part stands hand is =
    let whole : whole_commands sofar ≡ done = ap whole_commands is ∙ part_whole done part stands.whole stands.part_is in
    let P : List ℕ → Type 0 = StandsFor finisher.reader in
    record {
      behind = is ∙ ap (λ bs. bs ++ part) (sym whole) ∙ ap (λ bs. whole_commands sofar ++ bs) (sym hand);
      part_is = ap command_at hand ∙ stands.part_is;
      state_is = stands.state_is
          ∙ ap (page_from Between) (sym (ap (λ bs. (commands bs).entries) is ∙ part_commands done part stands.whole stands.part_is));
      fed_is = omega (arith, stands.stands.fed, stands.begins, ap length is, length-append done part);
      stands = subst P (sym hand) stands.stands;
      is_open = stands.is_open;
    }

-- at the first byte of a job
pub passed_none : (finisher : JobFinisher) → StandsFor finisher.reader [] → fed_in finisher ≡ 0 → is_failed_of finisher.reader ≡ false
    → finisher.state ≡ Between → in_hand finisher ≡ [] → Passed finisher []
unfolding command_at
passed_none finisher stands fed is_open state none =
    passed_new finisher [] [] [] (record {
      entries = [];
      whole = whole_none;
      state_is = state;
      part_is = refl;
      stands = stands;
      is_open = is_open;
      begins = omega (arith, stands.fed, fed);
    }) none refl

-- ---- a piece more

-- bytes with a piece behind them, by those in hand before it
pub held_split : (sofar hand piece : List ℕ) (whole : Option ℕ) → sofar ≡ whole_commands sofar ++ hand
    → sofar ++ piece ≡ (whole_commands sofar ++ made_whole whole hand piece) ++ left_behind whole hand piece
held_split sofar hand piece whole behind =
    let done : List ℕ = whole_commands sofar in
    let made : List ℕ = made_whole whole hand piece in
    let left : List ℕ = left_behind whole hand piece in
    ap (λ bs. bs ++ piece) behind ∙ append_assoc done hand piece
    ∙ ap (λ bs. done ++ bs) (sym (made_left whole hand piece)) ∙ sym (append_assoc done made left)

piece_split : (finisher : JobFinisher) (sofar piece : List ℕ) (whole : Option ℕ) → Passed finisher sofar
    → sofar ++ piece ≡ (whole_commands sofar ++ made_whole whole (in_hand finisher) piece) ++ left_behind whole (in_hand finisher) piece
piece_split finisher sofar piece whole passed = held_split sofar (in_hand finisher) piece whole passed.behind

-- the whole commands are all before what is left behind
stands_whole : (fault : Option JobFault) (reader : JobReader) (state : PageState) (done left : List ℕ) → StandsAfter fault reader state done left
    → whole_commands (done ++ left) ≡ done
stands_whole None reader state done left stands = part_whole done left stands.whole stands.part_is
stands_whole (Some fault) reader state done left behind =
    sym (ap whole_commands (append-nil (done ++ left)))
    ∙ wrong_whole done left [] (fault.offset - length done) fault.cause behind.whole (behind.wrong [])

-- the whole commands grew by those that the piece made whole
whole_grow : (finisher : JobFinisher) (reader : JobReader) (state : PageState) (sofar piece : List ℕ) (heard : PieceHeard) → Passed finisher sofar
    → EndsPiece reader state (whole_commands sofar) (in_hand finisher) piece heard
    → whole_commands (sofar ++ piece) ≡ whole_commands sofar ++ made_whole heard.whole (in_hand finisher) piece
whole_grow finisher reader state sofar piece heard passed ends =
    ap whole_commands (piece_split finisher sofar piece heard.whole passed)
    ∙ stands_whole heard.fault reader state (whole_commands sofar ++ made_whole heard.whole (in_hand finisher) piece)
    (left_behind heard.whole (in_hand finisher) piece) ends

pub passes_on : (out : Outside) (finisher : JobFinisher) (reader : JobReader) (state : PageState) (sofar piece : List ℕ) (heard : PieceHeard)
    → Passed finisher sofar → EndsPiece reader state (whole_commands sofar) (in_hand finisher) piece heard
    → Appends out.before out.now (made_whole heard.whole (in_hand finisher) piece) → PassesOn out sofar (sofar ++ piece)
passes_on out finisher reader state sofar piece heard passed ends writes = record {
  bytes = made_whole heard.whole (in_hand finisher) piece;
  grow = whole_grow finisher reader state sofar piece heard passed ends;
  writes = writes;
}

pub passes_part : (out : Outside) (finisher : JobFinisher) (reader : JobReader) (state : PageState) (sofar piece : List ℕ) (heard : PieceHeard)
    → Passed finisher sofar → EndsPiece reader state (whole_commands sofar) (in_hand finisher) piece heard
    → AppendsPart out.before out.now (made_whole heard.whole (in_hand finisher) piece) → PassesPart out sofar (sofar ++ piece)
passes_part out finisher reader state sofar piece heard passed ends writes = record {
  bytes = made_whole heard.whole (in_hand finisher) piece;
  grow = whole_grow finisher reader state sofar piece heard passed ends;
  writes = writes;
}

-- after a piece without a fault
pub passed_more : (finisher new : JobFinisher) (sofar piece : List ℕ) (heard : PieceHeard) → Passed finisher sofar
    → EndsPiece new.reader new.state (whole_commands sofar) (in_hand finisher) piece heard → heard.fault ≡ None
    → in_hand new ≡ left_behind heard.whole (in_hand finisher) piece → Passed new (sofar ++ piece)
passed_more finisher new sofar piece heard passed ends none hand =
    let done : List ℕ = whole_commands sofar ++ made_whole heard.whole (in_hand finisher) piece in
    let left : List ℕ = left_behind heard.whole (in_hand finisher) piece in
    let P : Option JobFault → Type 0 = λ fault. StandsAfter fault new.reader new.state done left in
    passed_new new (sofar ++ piece) done left (subst P none ends) hand (piece_split finisher sofar piece heard.whole passed)

-- there is room for what is left behind
pub left_fits : (finisher : JobFinisher) (reader : JobReader) (state : PageState) (sofar piece : List ℕ) (heard : PieceHeard)
    → EndsPiece reader state (whole_commands sofar) (in_hand finisher) piece heard → heard.fault ≡ None
    → length (left_behind heard.whole (in_hand finisher) piece) ≤ most_held
left_fits finisher reader state sofar piece heard ends none =
    let done : List ℕ = whole_commands sofar ++ made_whole heard.whole (in_hand finisher) piece in
    let left : List ℕ = left_behind heard.whole (in_hand finisher) piece in
    let P : Option JobFault → Type 0 = λ fault. StandsAfter fault reader state done left in
    let stands : StandsBehind reader state done left = subst P none ends in
    omega (arith, part-short left stands.stands.bytes stands.part_is)

-- a fault behind whole commands
fault_met : (state : PageState) (bytes done tail : List ℕ) (offset : ℕ) (cause : JobCause) → bytes ≡ done ++ tail
    → FaultBehind state done tail offset cause → MeetsFault state bytes offset cause
fault_met state bytes done tail offset cause is behind =
    let place : ℕ = offset - length done in
    let list : CommandList = record { entries = behind.entries; end = Fault (length done + place) cause } in
    let all : commands bytes ≡ list = sym (ap commands (append-nil bytes)) ∙ ap (λ bs. commands (bs ++ [])) is
    ∙ wrong_commands done tail [] place cause behind.whole (behind.wrong []) in
    record {
      state_is = behind.state_is ∙ ap (page_from Between) (sym (ap (λ (l : CommandList). l.entries) all));
      fault = ap (λ (l : CommandList). l.end) all ∙ ap (λ n. Fault n cause) (omega (arith, behind.behind));
    }

-- after a piece with a fault
pub stops_at_fault : (finisher : JobFinisher) (reader : JobReader) (state : PageState) (sofar piece : List ℕ) (heard : PieceHeard)
    (fault : JobFault) (offset : ℕ) (cause : JobCause) → Passed finisher sofar
    → EndsPiece reader state (whole_commands sofar) (in_hand finisher) piece heard → heard.fault ≡ Some fault
    → fault.offset ≡ offset → fault.cause ≡ cause → MeetsFault state (sofar ++ piece) offset cause
stops_at_fault finisher reader state sofar piece heard fault offset cause passed ends is offset_is cause_is =
    let done : List ℕ = whole_commands sofar ++ made_whole heard.whole (in_hand finisher) piece in
    let left : List ℕ = left_behind heard.whole (in_hand finisher) piece in
    let P : Option JobFault → Type 0 = λ fault. StandsAfter fault reader state done left in
    let Q : ℕ → Type 0 = λ n. MeetsFault state (sofar ++ piece) n cause in
    let R : JobCause → Type 0 = λ why. MeetsFault state (sofar ++ piece) fault.offset why in
    subst Q offset_is (subst R cause_is
    (fault_met state (sofar ++ piece) done left fault.offset fault.cause (piece_split finisher sofar piece heard.whole passed) (subst P is ends)))

-- where a write failed
pub stops_at_write : (old : JobFinisher) (new : PageState) (out : Outside) (piece : List ℕ) (answer : Result (Unit {0}) PassStop) (why : PassStop)
    → answer ≡ Err why → why ≡ stop.Write → HasRisen out
    → ((sofar : List ℕ) → Passed old sofar → PassesPart out sofar (sofar ++ piece))
    → IfErr answer (λ why. (sofar : List ℕ) → Passed old sofar → IsPassStop new out sofar (sofar ++ piece) why)
stops_at_write old new out piece answer why is write rose part =
    let P : Result (Unit {0}) PassStop → Type 0 = λ r. IfErr r (λ why. (sofar : List ℕ) → Passed old sofar
    → IsPassStop new out sofar (sofar ++ piece) why) in
    subst P (sym (is ∙ ap Err write)) (λ sofar passed. (rose, part sofar passed))
