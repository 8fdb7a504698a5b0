-- What a piece of a job makes whole, command by command.
use Rattle.std.proofs.Common.{◌≡◌, ℕ, ◌+◌, ◌-◌, ◌≤◌, false, List, [], ◌∷◌, ◌++◌, length, take, drop, Option, None, Some, IfSome}
use Rattle.std.proofs.Common.{refl, sym, ◌∙◌, ap, subst, arith, append_assoc, append-nil, length-append, length-drop, length-take, take-append-drop}
use Rattle.std.proofs.lemmas.List.{drop-append-le, drop_all, take_all, take-append-le}
use Rattle.std.proofs.Math.Seq.{take-add}
use Rattle.escp2_definitions.specs.declared.command.Command.{Command}
use Rattle.escp2_definitions.specs.declared.stops.JobCause.{JobCause}
use Rattle.escp2_definitions.specs.Commands.{Entry, command_at}
use Rattle.escp2_definitions.specs.Commands.Heard.{One, Wrong}
use Rattle.escp2_reader.proofs.Jobs.{commands_more, commands_none}
use Rattle.escp2_reader.specs.declared.reader.HeardState.{HeardState}
use Rattle.escp2_reader.specs.declared.reader.HeardState.TheVariants as heard
use Rattle.escp2_reader.specs.declared.reader.JobReader.{JobReader}
use Rattle.escp2_reader.specs.Reading.{HeardFault, HeardMore, HeardOne, IsHeard, StandsFor, begin_of, is_failed_of, rows_of}
use Rattle.finish_definitions.proofs.WholeCommands.{whole-first}
use Rattle.finish_definitions.specs.declared.state.PageState.{PageState}
use Rattle.finish_definitions.specs.declared.state.PageState.TheVariants.{Between}
use Rattle.finish_definitions.specs.Finished.{page_after, page_from, whole_commands}
use Rattle.job_finisher.specs.Hearing.{AreWhole, FaultBehind, StandsBehind, left_behind, made_whole}

-- ---- a piece, with the bytes of a command in hand before it

-- the last command that became whole ends within the piece
abbrev pub EndsWithin : Option ℕ → List ℕ → Type 0
EndsWithin whole piece = IfSome whole (λ end. end ≤ length piece)

made_more : (whole : Option ℕ) (part piece more : List ℕ) → EndsWithin whole piece
    → made_whole whole part (piece ++ more) ≡ made_whole whole part piece
made_more None part piece more within = refl
made_more (Some end) part piece more within = ap (λ bs. part ++ bs) (take-append-le end piece more within)

left_more : (whole : Option ℕ) (part piece more : List ℕ) → EndsWithin whole piece
    → left_behind whole part (piece ++ more) ≡ left_behind whole part piece ++ more
left_more None part piece more within = sym (append_assoc part piece more)
left_more (Some end) part piece more within = drop-append-le end piece more within

-- both together are all of the bytes
pub made_left : (whole : Option ℕ) (part piece : List ℕ) → made_whole whole part piece ++ left_behind whole part piece ≡ part ++ piece
made_left None part piece = refl
made_left (Some end) part piece =
    append_assoc part (take end piece) (drop end piece) ∙ ap (λ bs. part ++ bs) (take-append-drop end piece)

-- the bytes of a piece up to a place, and those that are used from there on
pub used_more : (piece : List ℕ) (at used : ℕ) → at ≤ length piece
    → take (at + used) piece ≡ take at piece ++ take used (take (length piece - at) (drop at piece))
used_more piece at used within =
    let whole : take (length piece - at) (drop at piece) ≡ drop at piece = take_all (length piece - at) (drop at piece)
    (omega (arith, length-drop at piece)) in
    take-add at used piece ∙ ap (λ bs. take at piece ++ take used bs) (sym whole)

-- and those behind them
pub used_parts : (piece : List ℕ) (at used : ℕ) → at ≤ length piece
    → piece ≡ take at piece ++ (take used (take (length piece - at) (drop at piece)) ++ drop (at + used) piece)
used_parts piece at used within =
    let more : List ℕ = take used (take (length piece - at) (drop at piece)) in
    sym (take-append-drop (at + used) piece) ∙ ap (λ bs. bs ++ drop (at + used) piece) (used_more piece at used within)
    ∙ append_assoc (take at piece) more (drop (at + used) piece)

-- the end of a command within a piece is one within the bytes up to a place behind it
pub ends_within : (whole : Option ℕ) (piece : List ℕ) (at : ℕ) → at ≤ length piece → IfSome whole (λ end. end ≤ at)
    → EndsWithin whole (take at piece)
ends_within None piece at within ends = tt
ends_within (Some end) piece at within ends = omega (arith, length-take at piece, ends, within)

-- it is one before a later place
pub ends_later : (whole : Option ℕ) (at later : ℕ) → at ≤ later → IfSome whole (λ end. end ≤ at) → IfSome whole (λ end. end ≤ later)
ends_later None at later first ends = tt
ends_later (Some end) at later first ends = omega (arith, first, ends)

-- ---- whole commands

-- the page after one more command
page_more : (state : PageState) (entries : List Entry) (entry : Entry)
    → page_from state (entries ++ entry ∷ []) ≡ page_after (page_from state entries) entry.command
page_more state [] entry = refl
page_more state (first ∷ entries) entry = page_more (page_after state first.command) entries entry

pub whole_none : AreWhole [] []
whole_none = record { are = commands_none; stay = λ rest. refl }

whole_more : (done bytes : List ℕ) (entries : List Entry) (command : Command) (rows : List ℕ) → AreWhole done entries
    → ((more : List ℕ) → command_at (bytes ++ more) ≡ One command rows (length bytes))
    → AreWhole (done ++ bytes) (entries ++ record { at = length done; command = command; rows = rows } ∷ [])
whole_more done bytes entries command rows so_far one = record {
  are = commands_more done bytes entries command rows so_far.are one;
  stay = λ rest.
      ap whole_commands (append_assoc done bytes rest)
      ∙ so_far.stay (bytes ++ rest)
      ∙ ap (λ bs. done ++ bs) (whole-first bytes rest command rows one)
      ∙ sym (append_assoc done bytes (whole_commands rest));
}

-- ---- answers of the reader

-- where the reader stands after these bytes of a piece
abbrev pub HearsSoFar : JobReader → PageState → Option ℕ → List ℕ → List ℕ → List ℕ → Type 0
HearsSoFar reader state whole done part used =
    StandsBehind reader state (done ++ made_whole whole part used) (left_behind whole part used)

-- with other names of the bytes
moved : {reader : JobReader} {state : PageState} {done part : List ℕ} (done' part' : List ℕ) → done ≡ done' → part ≡ part'
    → StandsBehind reader state done part → StandsBehind reader state done' part'
moved {reader} {state} {done} {part} done' part' first second stands =
    let P : List ℕ → Type 0 = λ bs. StandsBehind reader state bs part' in
    let Q : List ℕ → Type 0 = λ bs. StandsBehind reader state done bs in
    subst P first (subst Q second stands)

-- nothing of the piece was read
pub hears_none : {reader : JobReader} {state : PageState} {done part : List ℕ} → StandsBehind reader state done part
    → HearsSoFar reader state None done part []
hears_none {reader} {state} {done} {part} stands = moved (done ++ []) (part ++ []) (sym (append-nil done)) (sym (append-nil part)) stands

-- the whole piece was read
pub hears_all : (reader : JobReader) (state : PageState) (whole : Option ℕ) (done part used piece : List ℕ) → used ≡ piece
    → HearsSoFar reader state whole done part used
    → StandsBehind reader state (done ++ made_whole whole part piece) (left_behind whole part piece)
hears_all reader state whole done part used piece is so_far =
    let P : List ℕ → Type 0 = λ bs. HearsSoFar reader state whole done part bs in subst P is so_far

-- the next bytes are a part of the command in hand
pub hears_more : (old new : JobReader) (state : PageState) (whole : Option ℕ) (done part used more next : List ℕ)
    (answer : HeardState) → answer ≡ heard.More → next ≡ used ++ more → EndsWithin whole used → is_failed_of new ≡ false
    → ((sofar : List ℕ) → StandsFor old sofar → IsHeard answer (begin_of old) new (sofar ++ more))
    → HearsSoFar old state whole done part used → HearsSoFar new state whole done part next
hears_more old new state whole done part used more next answer is grown within is_open hears so_far =
    let here : List ℕ = left_behind whole part used in
    let P : HeardState → Type 0 = λ h. IsHeard h (begin_of old) new (here ++ more) in
    let told : HeardMore (begin_of old) new (here ++ more) = subst P is (hears here so_far.stands) in
    moved (done ++ made_whole whole part next) (left_behind whole part next)
    (ap (λ bs. done ++ bs) (sym (ap (made_whole whole part) grown ∙ made_more whole part used more within)))
    (sym (ap (left_behind whole part) grown ∙ left_more whole part used more within))
    (record {
      entries = so_far.entries;
      whole = so_far.whole;
      state_is = so_far.state_is;
      part_is = told.part;
      stands = told.stands;
      is_open = is_open;
      begins = told.begins ∙ so_far.begins;
    })

-- the next bytes end the command in hand
pub hears_one : (old new : JobReader) (state after : PageState) (whole : Option ℕ) (done part used more next : List ℕ) (end : ℕ)
    (answer : HeardState) (command : Command) → answer ≡ heard.One command → next ≡ used ++ more → end ≡ length next
    → is_failed_of new ≡ false → after ≡ page_after state command
    → ((sofar : List ℕ) → StandsFor old sofar → IsHeard answer (begin_of old) new (sofar ++ more))
    → HearsSoFar old state whole done part used → HearsSoFar new after (Some end) done part next
unfolding command_at
hears_one old new state after whole done part used more next end answer command is grown ends is_open turned hears so_far =
    let front : List ℕ = done ++ made_whole whole part used in
    let here : List ℕ = left_behind whole part used in
    let bytes : List ℕ = here ++ more in
    let P : HeardState → Type 0 = λ h. IsHeard h (begin_of old) new bytes in
    let told : HeardOne (begin_of old) command new bytes = subst P is (hears here so_far.stands) in
    let all : take end next ≡ next = take_all end next (omega arith) in
    moved (done ++ made_whole (Some end) part next) (left_behind (Some end) part next)
    (append_assoc done (made_whole whole part used) bytes
    ∙ ap (λ bs. done ++ bs) (sym (append_assoc (made_whole whole part used) here more)
    ∙ ap (λ bs. bs ++ more) (made_left whole part used)
    ∙ append_assoc part used more ∙ ap (λ bs. part ++ bs) (sym grown ∙ sym all)))
    (sym (drop_all end next (omega arith)))
    (record {
      entries = so_far.entries ++ record { at = length front; command = command; rows = rows_of new } ∷ [];
      whole = whole_more front bytes so_far.entries command (rows_of new) so_far.whole told.whole;
      state_is = turned ∙ ap (λ s. page_after s command) so_far.state_is
          ∙ sym (page_more Between so_far.entries (record { at = length front; command = command; rows = rows_of new }));
      part_is = refl;
      stands = told.stands;
      is_open = is_open;
      begins = told.begins ∙ ap (λ n. n + length bytes) so_far.begins ∙ sym (length-append front bytes);
    })

-- the next bytes have a fault
pub hears_fault : (old new : JobReader) (state : PageState) (whole : Option ℕ) (done part used more others piece : List ℕ)
    (answer : HeardState) (offset : ℕ) (cause : JobCause) → answer ≡ heard.Fault offset cause → piece ≡ used ++ (more ++ others)
    → EndsWithin whole used
    → ((sofar : List ℕ) → StandsFor old sofar → IsHeard answer (begin_of old) new (sofar ++ more))
    → HearsSoFar old state whole done part used
    → FaultBehind state (done ++ made_whole whole part piece) (left_behind whole part piece) offset cause
hears_fault old new state whole done part used more others piece answer offset cause is grown within hears so_far =
    let here : List ℕ = left_behind whole part used in
    let front : List ℕ = done ++ made_whole whole part used in
    let P : HeardState → Type 0 = λ h. IsHeard h (begin_of old) new (here ++ more) in
    let told : HeardFault (begin_of old) offset cause new (here ++ more) = subst P is (hears here so_far.stands) in
    let fronts : front ≡ done ++ made_whole whole part piece =
    ap (λ bs. done ++ bs) (sym (ap (made_whole whole part) grown ∙ made_more whole part used (more ++ others) within)) in
    let rests : here ++ (more ++ others) ≡ left_behind whole part piece =
    sym (ap (left_behind whole part) grown ∙ left_more whole part used (more ++ others) within) in
    let Q : List ℕ → Type 0 = λ bs. FaultBehind state bs (left_behind whole part piece) offset cause in
    let R : List ℕ → Type 0 = λ bs. FaultBehind state front bs offset cause in
    subst Q fronts (subst R rests (record {
      entries = so_far.entries;
      whole = so_far.whole;
      state_is = so_far.state_is;
      behind = omega (arith, told.behind, so_far.begins);
      wrong = λ rest.
          ap command_at (ap (λ bs. bs ++ rest) (sym (append_assoc here more others)) ∙ append_assoc (here ++ more) others rest)
          ∙ told.wrong (others ++ rest) ∙ ap (λ n. Wrong (offset - n) cause) so_far.begins;
    }))
