-- Commands one after another, and how a job ends after them.
use Rattle.std.proofs.Common.{◌≡◌, ℕ, zero, suc, ◌+◌, ◌-◌, ◌≤◌, true, false, nat_lt, if◌then◌else◌, List, [], ◌∷◌, ◌++◌, length, take, drop}
use Rattle.std.proofs.Common.{Option, None, Some, IfSome, refl, sym, ◌∙◌, ap, subst, arith, append_assoc, append-nil, length-append}
use Rattle.std.proofs.Common.{length-drop}
use Rattle.std.proofs.lemmas.List.{drop_at, take_all, take_at}
use Rattle.std.proofs.Math.Seq.{take-append-add}
use Rattle.std.proofs.lemmas.Bool.{le-ltb, lt-ltb}
use Rattle.escp2_definitions.specs.declared.command.Command.{Command}
use Rattle.escp2_definitions.specs.declared.stops.JobCause.{JobCause}
use Rattle.escp2_definitions.specs.Commands.{CommandList, Entry, Heard, ListEnd, command_at, commands, commands_from, with_entry}
use Rattle.escp2_definitions.specs.Commands.Heard.{One, Part, Wrong}
use Rattle.escp2_definitions.specs.Commands.ListEnd.{Whole, Cut, Fault}
use Rattle.escp2_laws.proofs.Stands.{after, first-of, one-len}
use Rattle.escp2_definitions.specs.declared.stops.JobStop.TheVariants as stop
use Rattle.escp2_definitions.specs.JobEnds.{Stopped, list_stop, stopped}
use Rattle.std.specs.Io.KnownBytes.{Consumes, IsAtEnd, prepend_known}
use Rattle.std.proofs.KnownBytes.{Consumes-kept, Consumes-nil, Consumes-trans, prepend_known-nil}
use Rattle.escp2_definitions.specs.declared.stops.JobStop.{JobStop}
use Rattle.escp2_reader.specs.declared.feed.FeedStop.{FeedStop}
use Rattle.escp2_reader.specs.declared.feed.FeedStop.TheVariants as feed_stop
use Rattle.escp2_reader.specs.declared.feed.JobFeed.{JobFeed}
use Rattle.weave_base.specs.Causes.{Rose}
use Rattle.escp2_reader.specs.declared.feed.PlacedCommand.{PlacedCommand}
use Rattle.escp2_reader.specs.Feeding.{HasEnded, IsRefused, IsStopped, TakesCommand, TakesPart, at_of, heard_of, most_of, text_of, unread_of}
use Rattle.escp2_reader.specs.Jobs.{AreCommands, Ends, JobMayGoOn, MeetsStop, TakesAllCommands, TakesCommands, TakesJob, commands_behind, with_entries}

-- as many steps as there are bytes are enough
enough : (most more at : ℕ) (bytes : List ℕ) → length bytes ≤ most → length bytes ≤ more
    → commands_from more at bytes ≡ commands_from most at bytes
unfolding commands_from
enough most more at [] few fits = refl
enough zero more at (b ∷ bytes) few fits = absurd (omega arith)
enough (suc most) zero at (b ∷ bytes) few fits = absurd (omega arith)
enough (suc most) (suc more) at (b ∷ bytes) few fits =
    first-of more at b bytes ∙ by_heard (λ more at bytes few fits. enough most more at bytes few fits) (command_at (b ∷ bytes)) refl
    ∙ sym (first-of most at b bytes)
  where
    by_heard : ((more at : ℕ) (bytes : List ℕ) → length bytes ≤ most → length bytes ≤ more
        → commands_from more at bytes ≡ commands_from most at bytes)
        → (h : Heard) → command_at (b ∷ bytes) ≡ h
        → after (command_at (b ∷ bytes)) more at (b ∷ bytes) ≡ after (command_at (b ∷ bytes)) most at (b ∷ bytes)
    by_heard behind (One command rows len) is =
        let sized : (1 ≤ len) × (len ≤ length (b ∷ bytes)) = one-len (b ∷ bytes) command rows len is in
        ap (λ h. after h more at (b ∷ bytes)) is
        ∙ ap (with_entry (record { at = at; command = command; rows = rows }))
        (behind more (at + len) (drop len (b ∷ bytes)) (omega (arith, sized.0, length-drop len (b ∷ bytes)))
        (omega (arith, sized.0, length-drop len (b ∷ bytes))))
        ∙ sym (ap (λ h. after h most at (b ∷ bytes)) is)
    by_heard behind Part is = ap (λ h. after h more at (b ∷ bytes)) is ∙ sym (ap (λ h. after h most at (b ∷ bytes)) is)
    by_heard behind (Wrong k cause) is = ap (λ h. after h more at (b ∷ bytes)) is ∙ sym (ap (λ h. after h most at (b ∷ bytes)) is)

-- the first command of bytes, and those after it
first : (at : ℕ) (bytes rest : List ℕ) (command : Command) (rows : List ℕ)
    → ((more : List ℕ) → command_at (bytes ++ more) ≡ One command rows (length bytes))
    → commands_behind at (bytes ++ rest) ≡ with_entry (record { at = at; command = command; rows = rows })
    (commands_behind (at + length bytes) rest)
unfolding command_at
first at [] rest command rows whole = absurd (let no : Part ≡ One command rows 0 = whole [] in cc)
first at (b ∷ bytes) rest command rows whole =
    let entry : Entry = record { at = at; command = command; rows = rows } in
    let len : ℕ = length (b ∷ bytes) in
    first-of (length (bytes ++ rest)) at b (bytes ++ rest)
    ∙ ap (λ h. after h (length (bytes ++ rest)) at (b ∷ (bytes ++ rest))) (whole rest)
    ∙ ap (λ bs. with_entry entry (commands_from (length (bytes ++ rest)) (at + len) bs)) (drop_at (b ∷ bytes) rest len refl)
    ∙ ap (with_entry entry) (enough (length rest) (length (bytes ++ rest)) (at + len) rest (omega arith)
    (omega (arith, length-append bytes rest)))

pub commands_none : AreCommands [] []
commands_none = record { are = λ rest. refl }

pub commands_more : (done bytes : List ℕ) (entries : List Entry) (command : Command) (rows : List ℕ) → AreCommands done entries
    → ((more : List ℕ) → command_at (bytes ++ more) ≡ One command rows (length bytes))
    → AreCommands (done ++ bytes) (entries ++ record { at = length done; command = command; rows = rows } ∷ [])
commands_more done bytes entries command rows so_far whole = record {
  are = λ rest.
      let entry : Entry = record { at = length done; command = command; rows = rows } in
      ap commands (append_assoc done bytes rest)
      ∙ so_far.are (bytes ++ rest)
      ∙ ap (with_entries entries) (first (length done) bytes rest command rows whole)
      ∙ ap (λ at. with_entries entries (with_entry entry (commands_behind at rest))) (sym (length-append done bytes))
      ∙ ap (λ es. record { entries = es; end = (commands_behind (length (done ++ bytes)) rest).end })
      (sym (append_assoc entries (entry ∷ []) (commands_behind (length (done ++ bytes)) rest).entries));
}

-- ---- how a job ends

-- the job's bytes after the commands that were answered
cut : (done tail : List ℕ) (most : ℕ) → length done ≤ most → take most (done ++ tail) ≡ done ++ take (most - length done) tail
cut done tail most within =
    let split : most ≡ length done + (most - length done) = omega arith in
    ap (λ n. take n (done ++ tail)) split ∙ take-append-add done tail (most - length done)

behind : (done tail : List ℕ) (most : ℕ) (entries : List Entry) → AreCommands done entries → length done ≤ most
    → commands (take most (done ++ tail)) ≡ with_entries entries (commands_behind (length done) (take (most - length done) tail))
behind done tail most entries heard within = ap commands (cut done tail most within) ∙ heard.are (take (most - length done) tail)

-- less than a command
part_ends : (at b : ℕ) (bytes : List ℕ) → command_at (b ∷ bytes) ≡ Part
    → commands_behind at (b ∷ bytes) ≡ record { entries = []; end = Cut at }
part_ends at b bytes part = first-of (length bytes) at b bytes ∙ ap (λ h. after h (length bytes) at (b ∷ bytes)) part

-- no command
wrong_ends : (at place : ℕ) (cause : JobCause) (bytes : List ℕ) → command_at bytes ≡ Wrong place cause
    → commands_behind at bytes ≡ record { entries = []; end = Fault (at + place) cause }
unfolding command_at
wrong_ends at place cause [] wrong = absurd (let no : Part ≡ Wrong place cause = wrong in cc)
wrong_ends at place cause (b ∷ bytes) wrong = first-of (length bytes) at b bytes ∙ ap (λ h. after h (length bytes) at (b ∷ bytes)) wrong

-- with a list of no more commands
ended : (entries : List Entry) (end : ListEnd)
    → with_entries entries (record { entries = []; end = end }) ≡ record { entries = entries; end = end }
ended entries end = ap (λ es. record { entries = es; end = end }) (append-nil entries)

pub first_commands : (done tail : List ℕ) (most : ℕ) (entries : List Entry) → AreCommands done entries → length done ≤ most
    → (commands (take most (done ++ tail))).entries ≡ entries ++ (commands_behind (length done) (take (most - length done) tail)).entries
first_commands done tail most entries heard within = ap (λ (job : CommandList). job.entries) (behind done tail most entries heard within)

ends : (most : ℕ) (bytes : List ℕ) (entries : List Entry) (end : ListEnd) (stop : Option Stopped)
    → commands (take most bytes) ≡ record { entries = entries; end = end }
    → list_stop end most (length bytes) ≡ stop → Ends most bytes entries stop
ends most bytes entries end stop is stops = record {
  are = ap (λ (job : CommandList). job.entries) is;
  stop_is = ap (λ (job : CommandList). list_stop job.end most (length bytes)) is ∙ stops;
}

pub ends_whole : (done : List ℕ) (most : ℕ) (entries : List Entry) → AreCommands done entries → length done ≤ most
    → Ends most done entries None
unfolding commands_from
ends_whole done most entries heard within =
    let all : commands (take most done) ≡ record { entries = entries; end = Whole } =
    ap commands (take_all most done within ∙ sym (append-nil done)) ∙ heard.are [] ∙ ended entries Whole in
    ends most done entries Whole None all (ap (λ b. if b then stopped most stop.TooLong else None) (le-ltb most (length done) within))

pub ends_fault : (done bytes rest : List ℕ) (most offset : ℕ) (cause : JobCause) (entries : List Entry) → AreCommands done entries
    → length done + length bytes ≤ most
    → length done ≤ offset → ((more : List ℕ) → command_at (bytes ++ more) ≡ Wrong (offset - length done) cause)
    → Ends most (done ++ (bytes ++ rest)) entries (stopped offset (stop.Reader cause))
ends_fault done bytes rest most offset cause entries heard within placed wrong =
    let room : ℕ = most - length done in
    let split : room ≡ length bytes + (room - length bytes) = omega arith in
    let left : take room (bytes ++ rest) ≡ bytes ++ take (room - length bytes) rest =
    ap (λ n. take n (bytes ++ rest)) split ∙ take-append-add bytes rest (room - length bytes) in
    let back : length done + (offset - length done) ≡ offset = omega arith in
    ends most (done ++ (bytes ++ rest)) entries (Fault offset cause) (stopped offset (stop.Reader cause))
    (behind done (bytes ++ rest) most entries heard (omega arith)
    ∙ ap (λ bs. with_entries entries (commands_behind (length done) bs)) left
    ∙ ap (with_entries entries)
    (wrong_ends (length done) (offset - length done) cause (bytes ++ take (room - length bytes) rest)
    (wrong (take (room - length bytes) rest)))
    ∙ ap (λ n. with_entries entries (record { entries = []; end = Fault n cause })) back
    ∙ ended entries (Fault offset cause))
    refl

-- the job goes on past its greatest length
pub ends_too_long : (done bytes rest : List ℕ) (most : ℕ) (entries : List Entry) → AreCommands done entries
    → length done + length bytes ≡ most
    → command_at bytes ≡ Part → (rest ≡ [] → ⊥) → Ends most (done ++ (bytes ++ rest)) entries (stopped most stop.TooLong)
unfolding commands_from
ends_too_long done bytes [] most entries heard full part more = absurd (more refl)
ends_too_long done bytes (r ∷ rest) most entries heard full part more = by_bytes bytes full part
  where
    by_bytes : (bytes : List ℕ) → length done + length bytes ≡ most → command_at bytes ≡ Part
        → Ends most (done ++ (bytes ++ r ∷ rest)) entries (stopped most stop.TooLong)
    by_bytes bytes full part =
        let room : most - length done ≡ length bytes = omega arith in
        let left : take (most - length done) (bytes ++ r ∷ rest) ≡ bytes = take_at bytes (r ∷ rest) (most - length done) (sym room) in
        let long : nat_lt most (length (done ++ (bytes ++ r ∷ rest))) ≡ true =
        lt-ltb most (length (done ++ (bytes ++ r ∷ rest)))
        (omega (arith, length-append done (bytes ++ r ∷ rest), length-append bytes (r ∷ rest))) in
        let all : commands (take most (done ++ (bytes ++ r ∷ rest))) ≡ with_entries entries (commands_behind (length done) bytes) =
        behind done (bytes ++ r ∷ rest) most entries heard (omega arith)
        ∙ ap (λ bs. with_entries entries (commands_behind (length done) bs)) left in
        by_case bytes part all long
      where
        by_case : (bytes : List ℕ) → command_at bytes ≡ Part
            → commands (take most (done ++ (bytes ++ r ∷ rest))) ≡ with_entries entries (commands_behind (length done) bytes)
            → nat_lt most (length (done ++ (bytes ++ r ∷ rest))) ≡ true
            → Ends most (done ++ (bytes ++ r ∷ rest)) entries (stopped most stop.TooLong)
        by_case [] part all long =
            ends most _ entries Whole _ (all ∙ ended entries Whole) (ap (λ b. if b then stopped most stop.TooLong else None) long)
        by_case (b ∷ bytes) part all long =
            ends most _ entries (Cut (length done)) _ (all ∙ ap (with_entries entries) (part_ends (length done) b bytes part)
            ∙ ended entries (Cut (length done)))
            (ap (λ c. if c then stopped most stop.TooLong else stopped (length done) stop.Cut) long)

-- the job ends inside a command
pub ends_cut : (done bytes : List ℕ) (most : ℕ) (entries : List Entry) → AreCommands done entries → length done + length bytes ≤ most
    → command_at bytes ≡ Part → (bytes ≡ [] → ⊥) → Ends most (done ++ bytes) entries (stopped (length done) stop.Cut)
ends_cut done [] most entries heard within part some = absurd (some refl)
ends_cut done (b ∷ bytes) most entries heard within part some =
    let left : take (most - length done) (b ∷ bytes) ≡ b ∷ bytes = take_all (most - length done) (b ∷ bytes) (omega arith) in
    let short : nat_lt most (length (done ++ b ∷ bytes))
    ≡ false = le-ltb most (length (done ++ b ∷ bytes)) (omega (arith, length-append done (b ∷ bytes))) in
    ends most (done ++ b ∷ bytes) entries (Cut (length done)) (stopped (length done) stop.Cut)
    (behind done (b ∷ bytes) most entries heard (omega arith)
    ∙ ap (λ bs. with_entries entries (commands_behind (length done) bs)) left
    ∙ ap (with_entries entries) (part_ends (length done) b bytes part)
    ∙ ended entries (Cut (length done)))
    (ap (λ c. if c then stopped most stop.TooLong else stopped (length done) stop.Cut) short)

-- ---- the calls of a feed, one after another

-- The feed answered these commands and no more, of a job that has this text.
pub record GaveCommands (feed : JobFeed) (before text : Option (List ℕ)) (entries : List Entry) : Type 0 where
  pub done : List ℕ
  pub taken : Consumes before text done
  pub are : AreCommands done entries
  pub at : at_of feed ≡ length done

pub gave_none : (feed : JobFeed) (left : Option (List ℕ)) → at_of feed ≡ 0 → unread_of feed ≡ []
    → GaveCommands feed left (text_of feed left) []
gave_none feed left at none =
    let P : Option (List ℕ) → Type 0 = λ text. Consumes left text [] in
    let same : text_of feed left ≡ left = ap (λ bs. prepend_known bs left) none ∙ prepend_known-nil left in
    record { done = []; taken = subst P (sym same) (Consumes-nil left); are = commands_none; at = at }

-- a command has a byte at least
pub some_bytes : (bytes : List ℕ) (command : Command) (rows : List ℕ)
    → ((more : List ℕ) → command_at (bytes ++ more) ≡ One command rows (length bytes)) → 1 ≤ length bytes
unfolding command_at
some_bytes [] command rows whole = absurd (let no : Part ≡ One command rows 0 = whole [] in cc)
some_bytes (b ∷ bytes) command rows whole = omega arith

-- the entry of a command that was given
abbrev pub entry_of : JobFeed → PlacedCommand → Entry
entry_of feed placed = record { at = placed.at; command = placed.command; rows = heard_of feed }

pub gave_more : (old new : JobFeed) (before text now : Option (List ℕ)) (entries : List Entry) (placed : PlacedCommand)
    → GaveCommands old before text entries
    → TakesCommand old new text now placed → GaveCommands new before now (entries ++ entry_of new placed ∷ [])
gave_more old new before text now entries placed gave takes =
    let at : length gave.done ≡ placed.at = sym (takes.at ∙ gave.at) in
    let P : ℕ → Type 0 = λ n. AreCommands (gave.done ++ takes.bytes)
    (entries ++ record { at = n; command = placed.command; rows = heard_of new } ∷ []) in
    record {
      done = gave.done ++ takes.bytes;
      taken = Consumes-trans before text now gave.done takes.bytes gave.taken takes.taken;
      are = subst P at (commands_more gave.done takes.bytes entries placed.command (heard_of new) gave.are takes.whole);
      at = takes.behind ∙ ap (λ n. n + length takes.bytes) gave.at ∙ sym (length-append gave.done takes.bytes);
    }

-- what is not used was taken of the source too
source_taken : (feed : JobFeed) (before left : Option (List ℕ)) (bytes : List ℕ) → Consumes before (text_of feed left) bytes
    → Consumes before left (bytes ++ feed.unread)
source_taken feed None left bytes taken = tt
source_taken feed (Some xs) None bytes taken = absurd taken
source_taken feed (Some xs) (Some ys) bytes taken = taken ∙ sym (append_assoc bytes feed.unread ys)

none_behind : (xs ys : List ℕ) → xs ++ ys ≡ [] → ys ≡ []
none_behind [] ys none = none
none_behind (x ∷ xs) ys none = absurd (omega (arith, ap length none, length-append (x ∷ xs) ys))

source_ended : (feed : JobFeed) (before left : Option (List ℕ)) (bytes : List ℕ) → IsAtEnd (text_of feed left)
    → Consumes before (text_of feed left) bytes
    → IsAtEnd left × Consumes before left bytes
source_ended feed None None bytes end taken = (tt, tt)
source_ended feed None (Some ys) bytes end taken = (none_behind feed.unread ys end, tt)
source_ended feed (Some xs) None bytes end taken = absurd taken
source_ended feed (Some xs) (Some ys) bytes end taken =
    let none : ys ≡ [] = none_behind feed.unread ys end in
    (none, taken ∙ ap (λ bs. bytes ++ bs) (end ∙ sym none))

-- what was taken of the source begins with the commands that were given
pub takes_gave : (feed now : JobFeed) (before text left : Option (List ℕ)) (entries : List Entry) (part : List ℕ)
    → GaveCommands feed before text entries
    → Consumes text (text_of now left) part → TakesCommands (most_of feed) before left entries
takes_gave feed now before text left entries part gave takes = record {
  bytes = (gave.done ++ part) ++ now.unread;
  taken = source_taken now before left (gave.done ++ part) (Consumes-trans before text (text_of now left) gave.done part gave.taken takes);
  others = (commands_behind (length gave.done) (take (most_of feed - length gave.done) (part ++ now.unread))).entries;
  are = ap (λ bs. (commands (take (most_of feed) bs)).entries) (append_assoc gave.done part now.unread)
      ∙ first_commands gave.done (part ++ now.unread) (most_of feed) entries gave.are (omega (arith, gave.at, feed.within));
}

-- where a read failed, what was taken of the source is these commands and less than a further one
pub takes_all : (feed now : JobFeed) (before text left : Option (List ℕ)) (entries : List Entry) (part : List ℕ)
    → GaveCommands feed before text entries → TakesPart feed text (text_of now left) part → unread_of now ≡ []
    → TakesAllCommands (most_of feed) before left entries
takes_all feed now before text left entries part gave takes none =
    let bytes : List ℕ = gave.done ++ part in
    let same : bytes ++ now.unread ≡ bytes = ap (λ bs. bytes ++ bs) none ∙ append-nil bytes in
    let P : List ℕ → Type 0 = Consumes before left in
    let taken : Consumes before left bytes =
    subst P same (source_taken now before left bytes
    (Consumes-trans before text (text_of now left) gave.done part gave.taken takes.taken)) in
    let ends = by_part part takes.part takes.within in
    let Q : Option Stopped → Type 0 = JobMayGoOn in
    record { bytes = bytes; taken = taken; are = ends.1.are; end = subst Q (sym ends.1.stop_is) ends.2 }
  where
    by_part : (part : List ℕ) → command_at part ≡ Part → at_of feed + length part ≤ most_of feed
        → (why : Option Stopped) × Ends (most_of feed) (gave.done ++ part) entries why × JobMayGoOn why
    by_part [] less within =
        let P : List ℕ → Type 0 = λ bs. Ends (most_of feed) bs entries None in (
          None,
          subst P (sym (append-nil gave.done))
              (ends_whole gave.done (most_of feed) entries gave.are (omega (arith, gave.at, feed.within))),
          tt,
        )
    by_part (b ∷ bytes) less within =
        let some : b ∷ bytes ≡ [] → ⊥ = λ e. omega (arith, ap length e) in (
          stopped (length gave.done) stop.Cut,
          ends_cut gave.done (b ∷ bytes) (most_of feed) entries gave.are (omega (arith, gave.at, within)) less some,
          refl,
        )

-- nothing was taken
pub nothing_taken : (most : ℕ) (left : Option (List ℕ)) → TakesAllCommands most left left []
nothing_taken most left =
    let ends = ends_whole [] most [] commands_none (omega arith) in
    let Q : Option Stopped → Type 0 = JobMayGoOn in
    record { bytes = []; taken = Consumes-nil left; are = ends.are; end = subst Q (sym ends.stop_is) tt }

pub job_ended : (feed now : JobFeed) (before text left : Option (List ℕ)) (entries : List Entry) → GaveCommands feed before text entries
    → HasEnded text (text_of now left)
    → TakesJob (most_of feed) before left entries
job_ended feed now before text left entries gave ended =
    let all = source_ended now before left gave.done ended.1 (Consumes-kept before text (text_of now left) gave.done gave.taken ended.0) in
    record {
      bytes = gave.done;
      taken = all.1;
      end = all.0;
      ends = ends_whole gave.done (most_of feed) entries gave.are (omega (arith, gave.at, feed.within));
    }

-- what holds of the bytes of a job where the source says what it holds: those of the commands, these, and the rest
told : (P : List ℕ → Type 0) (before text now : Option (List ℕ)) (done bytes : List ℕ) → Consumes before text done → Consumes text now bytes
    → ((rest : List ℕ) → now ≡ Some rest → P (done ++ (bytes ++ rest))) → IfSome before P
told P None text now done bytes first next holds = tt
told P (Some xs) None now done bytes first next holds = absurd first
told P (Some xs) (Some ys) None done bytes first next holds = absurd next
told P (Some xs) (Some ys) (Some zs) done bytes first next holds = subst P (sym (first ∙ ap (λ bs. done ++ bs) next)) (holds zs refl)

left_none : (now : Option (List ℕ)) (rest : List ℕ) → now ≡ Some rest → IsAtEnd now → rest ≡ []
left_none now rest is end = let P : Option (List ℕ) → Type 0 = IsAtEnd in subst P is end

pub job_refused : (feed : JobFeed) (before text now : Option (List ℕ)) (entries : List Entry) (offset : ℕ) (cause : JobStop)
    → GaveCommands feed before text entries
    → IsRefused feed text now offset cause → MeetsStop (most_of feed) before entries offset cause
job_refused feed before text now entries offset (stop.Reader cause) gave meets =
    told _ before text now gave.done meets.bytes gave.taken meets.taken (λ rest _.
    ends_fault gave.done meets.bytes rest (most_of feed) offset cause entries gave.are (omega (arith, gave.at, meets.within))
    (omega (arith, gave.at, meets.behind))
    (λ more. meets.wrong more ∙ ap (λ n. Wrong (offset - n) cause) gave.at))
job_refused feed before text now entries offset stop.Cut gave meets =
    told _ before text now gave.done meets.bytes gave.taken meets.takes.taken (λ rest is.
    let none : rest ≡ [] = left_none now rest is meets.end in
    let P : List ℕ → Type 0 = λ bs. Ends (most_of feed) (gave.done ++ bs) entries (stopped offset stop.Cut) in
    let Q : ℕ → Type 0 = λ n. Ends (most_of feed) (gave.done ++ meets.bytes) entries (stopped n stop.Cut) in
    subst P (sym (ap (λ xs. meets.bytes ++ xs) none ∙ append-nil meets.bytes))
    (subst Q (sym (meets.offset_is ∙ gave.at))
    (ends_cut gave.done meets.bytes (most_of feed) entries gave.are (omega (arith, gave.at, meets.takes.within)) meets.takes.part
    meets.some)))
job_refused feed before text now entries offset (stop.Machine fault) gave meets = absurd meets
job_refused feed before text now entries offset stop.TooLong gave meets =
    told _ before text now gave.done meets.bytes gave.taken meets.takes.taken (λ rest is.
    let more : rest ≡ [] → ⊥ = let P : Option (List ℕ) → Type 0 = λ o. IfSome o (λ text. text ≡ [] → ⊥) in subst P is meets.more in
    let Q : ℕ → Type 0 = λ n. Ends (most_of feed) (gave.done ++ (meets.bytes ++ rest)) entries (stopped n stop.TooLong) in
    subst Q (sym meets.offset_is)
    (ends_too_long gave.done meets.bytes rest (most_of feed) entries gave.are (omega (arith, gave.at, meets.full))
    meets.takes.part more))

-- a count that rose in a part of a call rose in the call
pub rose_within : (a b c d : ℕ) → a ≤ b → Rose b c → c ≤ d → Rose a d
rose_within a b c d first rose last = record { rose = omega (arith, first, rose.rose, last) }

-- what was taken before the feed stopped
pub stop_taken : (feed : JobFeed) (text now : Option (List ℕ)) (f g : ℕ) (why : FeedStop) → IsStopped feed text now f g why
    → (bytes : List ℕ) × Consumes text now bytes
stop_taken feed text now f g (feed_stop.Job offset (stop.Reader cause)) meets = (meets.bytes, meets.taken)
stop_taken feed text now f g (feed_stop.Job offset stop.Cut) meets = (meets.bytes, meets.takes.taken)
stop_taken feed text now f g (feed_stop.Job offset (stop.Machine fault)) meets = absurd meets
stop_taken feed text now f g (feed_stop.Job offset stop.TooLong) meets = (meets.bytes, meets.takes.taken)
stop_taken feed text now f g feed_stop.Read failed = (failed.bytes, failed.takes.taken)

-- a job whose source says what it holds begins with the commands that were answered
pub gave_first : (feed : JobFeed) (before text : Option (List ℕ)) (entries : List Entry) → GaveCommands feed before text entries
    → IfSome before (λ bytes. (others : List Entry) × ((commands (take (most_of feed) bytes)).entries ≡ entries ++ others))
gave_first feed before text entries gave =
    told _ before text text gave.done [] gave.taken (Consumes-nil text) (λ rest _. (
      (commands_behind (length gave.done) (take (most_of feed - length gave.done) rest)).entries,
      first_commands gave.done rest (most_of feed) entries gave.are (omega (arith, gave.at, feed.within)),
    ))
